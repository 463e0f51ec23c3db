-- What a call for a part of the key leaves for a piece: the refusal, or the slots of the lines that fit. From the promise of the call and the laws of parts.
use Rattle.std.specs.Prelude.{if◌then◌else◌}
use Rattle.std.proofs.Common.{◌≡◌, ℕ, ◌-◌, ◌*◌, ◌/◌, ◌<◌, ◌≤◌, min, Bool, true, false, eqb, ltb, leb, List, [], length, get_or, take, drop, sym, refl, ap, ◌∙◌, arith, length-take, take_all, ltb-false, ltb-true, eq-eqb, le-leb}
use Rattle.keylaws.specs.Slots.{slot_of, slots}
use Rattle.keylaws.specs.Continuation.{is_continuation}
use Rattle.keylaws.specs.Parts.{Part, handed, part, written}
use Rattle.keylaws.proofs.SlotBytes.{short_take, length_slots}
use Rattle.keylaws.proofs.PartsJoined.{part_written}
use Rattle.keytext.specs.Text.{lines, words}
use Rattle.keytext.proofs.LinesOfSlots.{lines_of_slots}
use Rattle.paper.specs.Read.{read_of}
use Rattle.keys.specs.Key.{Accepted, question_in, rules}
use Rattle.keys.specs.Calls.{Fetch, nothing, given, part_of, fetched}
use Rattle.keys.proofs.KeyOfAQuestion.{call_gives_part}
use Rattle.printing.specs.Pieces.{Progress, refusal, left}
use Rattle.printing.proofs.LeftLaws.{left_short, lines_fit, last_slot_of}
use Rattle.printing.proofs.PieceSteps.{accepted}

-- what the call tells, by its numbers
pub record Fetched : Type 0 where
  pub refusal : ℕ
  pub more : Bool
  pub count : ℕ

abbrev pub left_by : Fetched → List ℕ → Fetch
left_by r room = record { refusal = r.refusal; part = handed room r.count r.more }

-- the call, with room for n slots, one at least
pub record Called (bytes : List ℕ) (progress : Progress) (n : ℕ) (room now : List ℕ) (r : Fetched) : Type 0 where
  pub some : 1 ≤ n
  pub long : length room ≡ 6 * n
  pub leaves : left_by r now ≡ fetched (read_of bytes) progress.after room

-- the refusal that it tells, where the room has a slot
told_refusal : (r : ℕ) (c : Bool) (p : Part) (room : List ℕ)
    → (if eqb r 0 then (if c then given p else nothing 22 room) else nothing r room).refusal ≡ (if eqb r 0 then (if c then 0 else 22) else r)
told_refusal r c p room = go (eqb r 0) c
  where
    go : (b c : Bool) → (if b then (if c then given p else nothing 22 room) else nothing r room).refusal ≡ (if b then (if c then 0 else 22) else r)
    go true true = refl
    go true false = refl
    go false c = refl

module _ {bytes : List ℕ} {progress : Progress} {n : ℕ} {room now : List ℕ} {r : Fetched} (call : Called bytes progress n room now r) where
  six : leb 6 (length room) ≡ true
  six = le-leb 6 (length room) (omega (arith, call.some, call.long))

  pub refusal_is : r.refusal ≡ refusal bytes progress
  unfolding part_of
  refusal_is = ap (λ (f : Fetch). f.refusal) (rw six at call.leaves) ∙ told_refusal (read_of bytes).refusal (is_continuation (rules (question_in bytes)).events (question_in bytes).length progress.after) (part (left bytes progress) room) room

  module _ (yes : r.refusal ≡ 0) where
    ok : Accepted bytes
    ok = (accepted bytes progress (sym refusal_is ∙ yes)).0

    part_is : handed now r.count r.more ≡ part (left bytes progress) room
    part_is =
        let a = accepted bytes progress (sym refusal_is ∙ yes) in
        ap (λ (f : Fetch). f.part) ((rw (eq-eqb _ 0 a.0) at call.leaves) ∙ call_gives_part (question_in bytes) progress.after room a.1 (omega (arith, call.some, call.long)))

    fit : length room / 6 ≡ n
    fit = omega (arith, call.long)

    pub count_is : r.count ≡ min n (length (left bytes progress))
    unfolding part
    count_is = ap (λ (p : Part). p.count) part_is ∙ rw fit

    pub more_is : r.more ≡ ltb n (length (left bytes progress))
    unfolding part
    more_is = ap (λ (p : Part). p.more) part_is ∙ rw fit

    pub slots_are : take (6 * r.count) now ≡ slots (take n (left bytes progress))
    slots_are =
        ap written part_is ∙ part_written (left bytes progress) room (left_short bytes ok progress) ∙ rw fit

    pub slots_long : length (take (6 * r.count) now) ≡ 6 * r.count
    slots_long =
        let ws = left bytes progress in
        ap length slots_are ∙ length_slots (take n ws) (short_take n ws (left_short bytes ok progress)) ∙ omega (arith, length-take n ws, count_is)

    pub slots_there : 6 * r.count ≤ length now
    slots_there = omega (arith, slots_long, length-take (6 * r.count) now)

    pub lines_are : lines (words (take (6 * r.count) now)) ≡ lines (take n (left bytes progress))
    lines_are =
        let ws = left bytes progress in
        ap (λ (x : List ℕ). lines (words x)) slots_are ∙ lines_of_slots (take n ws) (short_take n ws (left_short bytes ok progress))

    -- more are left: n slots, and the next piece goes on after the last of them
    module _ (more : r.more ≡ true) where
      pub not_all : n < length (left bytes progress)
      not_all = ltb-true n (length (left bytes progress)) (sym more_is ∙ more)

      pub count_fits : r.count ≡ n
      count_fits = omega (arith, not_all, count_is)

      pub last_is : drop (length (take (6 * r.count) now) - 6) (take (6 * r.count) now) ≡ slot_of (get_or (left bytes progress) (n - 1) [])
      last_is = ap (λ (x : List ℕ). drop (length x - 6) x) slots_are ∙ last_slot_of (left bytes progress) n (left_short bytes ok progress) call.some (omega (arith, not_all))

    -- none are left: all slots
    module _ (none : r.more ≡ false) where
      pub all : length (left bytes progress) ≤ n
      all = ltb-false n (length (left bytes progress)) (sym more_is ∙ none)

      pub count_all : r.count ≡ length (left bytes progress)
      count_all = omega (arith, all, count_is)

      pub lines_all : lines (words (take (6 * r.count) now)) ≡ lines (left bytes progress)
      lines_all = lines_are ∙ ap lines (take_all n (left bytes progress) all)

      pub lines_long : length (lines (words (take (6 * r.count) now))) ≤ 20 * n
      lines_long = omega (arith, ap length lines_all, lines_fit bytes ok progress, all)
