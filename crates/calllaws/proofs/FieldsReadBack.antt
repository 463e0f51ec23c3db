-- The numbers that calls return, read back into their fields: a byte each, and then a count or a length. Assumes nothing.
use Rattle.std.specs.Prelude.{if◌then◌else◌}
use Prim.Native.Nat.{ℕ, ◌+◌, ◌/◌, ◌%◌, ◌≤◌, ◌<◌}
use mathlib.Core.Path.{◌≡◌, refl}
use mathlib.Core.Bool.{Bool, true, false, cond}
use mathlib.Core.List.{List, [], ◌∷◌}
use native.Mathlib.Omega.{arith}
use lib.ListN.{length, drop, get_or, length-take, length-drop}
use borrow.Author.Tests.{eqb-true}
use lib.Dec.{eqb, leb}
use Rattle.words.specs.Words.{flag}
use Rattle.words.proofs.Tests.{is_holds, if_case}
use Rattle.keylaws.proofs.Tests.{both}
use Rattle.forms.specs.Whole.{Whole, refused as no_form, accepted as form}
use Rattle.keylaws.specs.Rules.{Word, accepts}
use Rattle.keylaws.specs.Slots.{word_of, is_slot}
use Rattle.keylaws.specs.Continuation.{is_continuation}
use Rattle.keylaws.specs.Parts.{part_after}
use Rattle.keylaws.specs.Run.{stopped, run_from, run}
use Rattle.block.specs.Line.{is_plan}
use Rattle.rulebook.specs.Situation.{Kept}
use Rattle.rulebook.specs.Judged.{judged}
use Rattle.rulebook.specs.Apply.{own_refusal}
use Rattle.rulebook.proofs.RefusalsBelow.{own_below, stepped_below}
use Rattle.rulebook.proofs.NamesRight.{name_below as named-below}
use Rattle.signals.specs.Readings.{Told, can_be_read, value_read, told as value_told, nothing_told}
use Rattle.records.specs.Lists.{event_at}
use Rattle.lists.specs.Refusal.{◌unless◌, ◌or_else◌, event_refusal}
use Rattle.rules.specs.RulesOf.{name_told}
use Rattle.paper.specs.Question.{Question}
use Rattle.paper.specs.Read.{read_of}
use Rattle.paper.specs.Given.{Given}
use Rattle.paper.proofs.RefusalsBelow.{Below, later_below, unless_below, right_below, event_below, read_below}
use Rattle.keys.specs.Key.{rules}
use Rattle.keys.specs.Calls.{Fetch, given, nothing, part_of, fetched, Ran, told, not_run, slot_run, ran}
use Rattle.folvkin.specs.Block.{longest_situation, event_in, tried_refusal, event_told, records_after, name_of, told_with, event_packed, reading_told, packed}
use Rattle.folvkin.specs.Questions.{packed_part, packed_run, key_packed, run_packed}

flag_small : (v : Bool) → flag v < 256
flag_small true = omega arith
flag_small false = omega arith

-- ---- numbers whose fields are bytes
-- `refusal + 2^8 name + 2^16 length`
pub event_number : (refusal name : ℕ) (after : List ℕ) → refusal < 256 → name < 256
    → (told_with refusal name after % 256 ≡ refusal) × (told_with refusal name after / 256 % 256 ≡ name) × (told_with refusal name after / 65536 ≡ (if eqb refusal 0 then length after else 0))
event_number refusal name after h k = (omega arith, omega arith, omega arith)

-- `refusal + 2^8 value`
reading_number : (t : Told) → t.refusal < 256 → (packed t % 256 ≡ t.refusal) × (packed t / 256 ≡ t.value)
reading_number t h = (omega arith, omega arith)

-- `refusal + 2^8 more + 2^16 count`
pub key_number : (f : Fetch) → f.refusal < 256
    → (packed_part f % 256 ≡ f.refusal) × (packed_part f / 256 % 256 ≡ flag f.part.more) × (packed_part f / 65536 ≡ f.part.count)
key_number f h = let m = flag_small f.part.more in (omega arith, omega arith, omega arith)

-- `refusal + 2^8 place + 2^16 event's refusal + 2^24 holds + 2^32 name`
run_number : (r : Ran) → r.refusal < 256 → r.place < 256 → r.event_refusal < 256
    → (packed_run r % 256 ≡ r.refusal)
    × (packed_run r / 256 % 256 ≡ r.place)
    × (packed_run r / 65536 % 256 ≡ r.event_refusal)
    × (packed_run r / 16777216 % 256 ≡ flag r.holds)
    × (packed_run r / 4294967296 ≡ r.name)
run_number r h k l = let m = flag_small r.holds in (omega arith, omega arith, omega arith, omega arith, omega arith)

-- ---- every refusal is a byte
tried_below : (g : Whole Given) (e room : List ℕ) → Below (event_told g e room)
tried_below no_form e room = omega arith
tried_below (form g) e room =
    let p = g.plan in
    let x = g.situation in
    let own = own_below p x (event_in e) in
    let fits = unless_below 24 (leb longest_situation (length room)) (omega arith) in
    later_below (20 unless eqb (length e) 2) _ (unless_below 20 (eqb (length e) 2) (omega arith))
    (later_below (judged p x) _ (right_below p x)
    (later_below (event_refusal p (event_in e)) _ (event_below p (event_in e))
    (later_below (24 unless leb longest_situation (length room)) (own_refusal p x (event_in e)) fits (omega arith))))

-- ---- and so is a name: what is no plan is refused with 20 or 1, which name nothing
unplanned : (g : Given) → is_plan g.plan ≡ false → (e room : List ℕ) → name_of (form g) e (event_told (form g) e room) ≡ 0
unplanned g none e room = go (eqb (length e) 2)
  where
    go : (v : Bool) → name_of (form g) e (20 unless v or_else tried_refusal g.plan g.situation (event_in e) (length room)) ≡ 0
    go true = rw none refl
    go false = refl

name_below : (g : Whole Given) (e room : List ℕ) → name_of g e (event_told g e room) < 256
name_below no_form e room = omega arith
name_below (form g) e room = go (is_plan g.plan) refl
  where
    go : (v : Bool) → is_plan g.plan ≡ v → name_of (form g) e (event_told (form g) e room) < 256
    go true is = named-below g.plan (is_holds (is_plan g.plan) is) g.situation (event_in e) (event_told (form g) e room)
    go false none = omega (arith, unplanned g none e room)

value_below : (g : Whole Given) (r : List ℕ) → Below (reading_told g r).refusal
value_below no_form r = omega arith
value_below (form g) r =
    let p = g.plan in
    let x = g.situation in
    let P : Told → Type 0 = λ (t : Told). Below t.refusal in
    if_case P (eqb (length r) 2) _ (nothing_told 20)
    (λ t.
    if_case P (eqb (judged p x) 0) _ (nothing_told (judged p x))
    (λ u. if_case P (can_be_read p (get_or r 0 0) (get_or r 1 0)) (value_told (value_read p x (get_or r 0 0) (get_or r 1 0))) (nothing_told 21) (λ v. omega arith) (λ v. omega arith))
    (λ u. right_below p x))
    (λ t. omega arith)

part_below : (bytes after room : List ℕ) → Below (fetched (read_of bytes) after room).refusal
unfolding part_of
part_below bytes after room =
    let q = (read_of bytes).question in
    let P : Fetch → Type 0 = λ (f : Fetch). Below f.refusal in
    if_case P (eqb (read_of bytes).refusal 0) (part_of q after room) (nothing (read_of bytes).refusal room)
    (λ t.
    if_case P (is_continuation (rules q).events q.length after) _ (nothing 22 room)
    (λ u. if_case P (leb 6 (length room)) (given (part_after (rules q) q.length q.situation after room)) (nothing 24 room) (λ v. omega arith) (λ v. omega arith))
    (λ u. omega arith))
    (λ t. read_below bytes)

-- ---- a run: its place is one of the slot's five
five_places : (n limit : ℕ) (x : List ℕ) → is_slot n limit x ≡ true → length (word_of x) ≤ 5
unfolding is_slot word_of
five_places n limit x h =
    let six = eqb-true (length x) 6 (both (eqb (length x) 6) _ h).0 in
    omega (arith, length-take (get_or x 0 0) (drop 1 x), length-drop 1 x, six)

module _ (q : Question) where
  stops_within : (w : Word) (x : Kept) (i : ℕ) → ((run_from (rules q) x i w).place ≤ i + length w) × ((run_from (rules q) x i w).refusal < 20)
  unfolding run_from
  stops_within [] x i = (omega arith, omega arith)
  stops_within (p ∷ w) x i = go (accepts (rules q) x p) (stops_within w ((rules q).next x p) (i + 1)) (stepped_below q.plan x (event_at q.events p))
    where
      go : (v : Bool) → ((run_from (rules q) ((rules q).next x p) (i + 1) w).place ≤ i + 1 + length w) × ((run_from (rules q) ((rules q).next x p) (i + 1) w).refusal < 20)
          → (rules q).refusal x p < 20
          → ((cond v (run_from (rules q) ((rules q).next x p) (i + 1) w) (stopped i ((rules q).refusal x p))).place ≤ i + length (p ∷ w))
          × ((cond v (run_from (rules q) ((rules q).next x p) (i + 1) w) (stopped i ((rules q).refusal x p))).refusal < 20)
      go true h k = (omega (arith, h.0), h.1)
      go false h k = (omega arith, k)

  pub record Bytes (r : Ran) : Type 0 where
    pub refusal_byte : r.refusal < 25
    pub place_byte : r.place ≤ 6
    pub event_byte : r.event_refusal < 20

  slot_bytes : (slot : List ℕ) → Bytes (slot_run q slot)
  unfolding slot_run
  slot_bytes slot = go (is_slot (rules q).events q.length slot) refl
    where
      go : (v : Bool) → is_slot (rules q).events q.length slot ≡ v → Bytes (if v then told (run (rules q) q.situation (word_of slot)) (name_told q.plan q.events q.situation (word_of slot)) else not_run 22)
      go true e = let s = stops_within (word_of slot) q.situation 1 in record { refusal_byte = omega arith; place_byte = omega (arith, s.0, five_places (rules q).events q.length slot e); event_byte = s.1 }
      go false e = record { refusal_byte = omega arith; place_byte = omega arith; event_byte = omega arith }

-- ---- so of every call
pub event_fields : (g : Whole Given) (e room : List ℕ)
    → (event_packed g e room % 256 ≡ event_told g e room)
    × (event_packed g e room / 256 % 256 ≡ name_of g e (event_told g e room))
    × (event_packed g e room / 65536 ≡ (if eqb (event_told g e room) 0 then length (records_after g e) else 0))
event_fields g e room =
    let h = tried_below g e room in
    event_number (event_told g e room) (name_of g e (event_told g e room)) (records_after g e) (omega arith) (name_below g e room)

pub reading_fields : (g : Whole Given) (r : List ℕ) → (packed (reading_told g r) % 256 ≡ (reading_told g r).refusal) × (packed (reading_told g r) / 256 ≡ (reading_told g r).value)
reading_fields g r = let h = value_below g r in reading_number (reading_told g r) (omega arith)

pub key_fields : (bytes after room : List ℕ)
    → (key_packed bytes after room % 256 ≡ (fetched (read_of bytes) after room).refusal)
    × (key_packed bytes after room / 256 % 256 ≡ flag (fetched (read_of bytes) after room).part.more)
    × (key_packed bytes after room / 65536 ≡ (fetched (read_of bytes) after room).part.count)
key_fields bytes after room = let h = part_below bytes after room in key_number (fetched (read_of bytes) after room) (omega arith)

ran_bytes : (bytes slot : List ℕ) → Bytes (read_of bytes).question (ran (read_of bytes) slot)
ran_bytes bytes slot =
    let q = (read_of bytes).question in
    if_case (Bytes q) (eqb (read_of bytes).refusal 0) (slot_run q slot) (not_run (read_of bytes).refusal)
    (λ t. slot_bytes q slot) (λ t. record { refusal_byte = read_below bytes; place_byte = omega arith; event_byte = omega arith })

pub run_fields : (bytes slot : List ℕ)
    → (run_packed bytes slot % 256 ≡ (ran (read_of bytes) slot).refusal)
    × (run_packed bytes slot / 256 % 256 ≡ (ran (read_of bytes) slot).place)
    × (run_packed bytes slot / 65536 % 256 ≡ (ran (read_of bytes) slot).event_refusal)
    × (run_packed bytes slot / 16777216 % 256 ≡ flag (ran (read_of bytes) slot).holds)
    × (run_packed bytes slot / 4294967296 ≡ (ran (read_of bytes) slot).name)
run_fields bytes slot =
    let b = ran_bytes bytes slot in
    run_number (ran (read_of bytes) slot) (omega (arith, b.refusal_byte)) (omega (arith, b.place_byte)) (omega (arith, b.event_byte))
