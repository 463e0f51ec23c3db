-- The calls of `folvkin_key` fetch the key. Assumes nothing.
use Rattle.std.specs.Prelude.{if◌then◌else◌}
use Prim.Native.Nat.{ℕ, ◌≤◌}
use mathlib.Core.Path.{◌≡◌, refl, sym, ap, ap₂, subst, ◌∙◌}
use mathlib.Core.Bool.{Bool, true, false, cond}
use mathlib.Core.List.{List, [], ◌∷◌}
use native.Mathlib.Omega.{arith}
use borrow.Author.Tests.{eq-eqb}
use lib.ListN.{length}
use lib.Dec.{eqb}
use Rattle.words.specs.Words.{flag}
use Rattle.keylaws.specs.Continuation.{from_start, is_continuation}
use Rattle.keylaws.specs.Parts.{Part, handed, part_after, last_slot, calls, joined, total, remain, Rooms}
use Rattle.keylaws.proofs.SlotsOfWords.{start_continues}
use Rattle.keylaws.proofs.AfterContinuation.{after_the_start}
use Rattle.keylaws.proofs.PartsJoined.{enough_rooms}
use Rattle.paper.specs.Question.{Question}
use Rattle.paper.specs.Read.{read_of}
use Rattle.keys.specs.Key.{Accepted, question_in, Bounded, rules, key_of}
use Rattle.keys.specs.Calls.{Fetch, given, nothing, part_of, fetched}
use Rattle.keys.proofs.Accepted.{bounded}
use Rattle.keys.proofs.KeyOfAQuestion.{call_gives_part, whole_key, last_slot_continues}
use Rattle.folvkin.specs.Questions.{packed_part}
use Rattle.calllaws.proofs.FieldsReadBack.{key_number}
use Rattle.calllaws.specs.Told.{Call, refusal_told}
use Rattle.calllaws.specs.KeyCalls.{key_call, part_told, key_calls, parts_told, NoneRefused}
use Rattle.calllaws.specs.Laws.{Fetches}

-- ---- the fields of one call
abbrev call_of : Fetch → Call
call_of f = record { told = packed_part f; room = f.part.room }

flag_back : (v : Bool) → eqb (flag v) 1 ≡ v
flag_back true = refl
flag_back false = refl

fields_back : (p : Part) → part_told (call_of (given p)) ≡ p
fields_back p =
    let f = key_number (given p) (omega arith) in
    ap₂ (λ (n : ℕ) (v : Bool). handed p.room n v) f.2 (ap (λ (n : ℕ). eqb n 1) f.1 ∙ flag_back p.more)

module _ (question : List ℕ) (ok : Accepted question) where
  abbrev q : Question
  q = question_in question

  few : Bounded q
  few = bounded question ok

  abbrev part_after_call : List ℕ → List ℕ → Part
  part_after_call x room = part_after (rules q) q.length q.situation x room

  abbrev Continues : List ℕ → Type 0
  Continues x = is_continuation (rules q).events q.length x ≡ true

  module _ (x room : List ℕ) (c : Continues x) (six : 6 ≤ length room) where
    fetched_part : fetched (read_of question) x room ≡ given (part_after_call x room)
    fetched_part = ap (λ (v : Bool). if v then part_of q x room else nothing (read_of question).refusal room) (eq-eqb _ 0 ok) ∙ call_gives_part q x room c six

    told_part : part_told (key_call question x room) ≡ part_after_call x room
    told_part = ap (λ (f : Fetch). part_told (call_of f)) fetched_part ∙ fields_back (part_after_call x room)

    not_refused : refusal_told (key_call question x room) ≡ 0
    not_refused = ap (λ (f : Fetch). refusal_told (call_of f)) fetched_part ∙ (key_number (given (part_after_call x room)) (omega arith)).0

  -- ---- call after call
  rest_after : Part → List (List ℕ) → List Call
  rest_after p rooms = cond p.more (key_calls question (last_slot p) rooms) []

  pub record Told (x : List ℕ) (rooms : List (List ℕ)) : Type 0 where
    pub none_refused : NoneRefused (key_calls question x rooms)
    pub the_parts : parts_told (key_calls question x rooms) ≡ calls (rules q) q.length q.situation x rooms

  told : (rooms : List (List ℕ)) (x : List ℕ) → Continues x → Rooms rooms → Told x rooms
  unfolding key_calls calls rest_after
  told [] x c h = record { none_refused = tt; the_parts = refl }
  told (room ∷ rooms) x c h = go (part_after_call x room).more refl (λ y d. told rooms y d h.1)
    where
      one : part_told (key_call question x room) ≡ part_after_call x room
      one = told_part x room c h.0

      finish : (b : Bool) → (part_after_call x room).more ≡ b
          → NoneRefused (cond b (key_calls question (last_slot (part_after_call x room)) rooms) [])
          → parts_told (cond b (key_calls question (last_slot (part_after_call x room)) rooms) []) ≡ cond b (calls (rules q) q.length q.situation (last_slot (part_after_call x room)) rooms) []
          → Told x (room ∷ rooms)
      finish b e n r =
          let nothing-refused : NoneRefused (rest_after (part_after_call x room) rooms) = rw e n in
          let rest_is : parts_told (rest_after (part_after_call x room) rooms) ≡ cond (part_after_call x room).more (calls (rules q) q.length q.situation (last_slot (part_after_call x room)) rooms) [] = rw e r in
          record {
            none_refused = (not_refused x room c h.0, subst (λ (p : Part). NoneRefused (rest_after p rooms)) (sym one) nothing-refused);
            the_parts = ap (λ (p : Part). p ∷ parts_told (rest_after p rooms)) one ∙ ap (λ (l : List Part). part_after_call x room ∷ l) rest_is;
          }

      go : (b : Bool) → (part_after_call x room).more ≡ b → ((y : List ℕ) → Continues y → Told y rooms) → Told x (room ∷ rooms)
      go true e on =
          let t = on (last_slot (part_after_call x room)) (last_slot_continues q few x room h.0 e) in
          finish true e t.none_refused t.the_parts
      go false e on = finish false e tt refl

  pub fetches : (rooms : List (List ℕ)) → Rooms rooms → 1 ≤ length rooms → length (key_of q) ≤ length rooms → Fetches question (key_calls question from_start rooms)
  fetches rooms h some enough =
      let t = told rooms from_start (start_continues (rules q).events q.length) h in
      let whole = ap length (after_the_start (rules q) q.length q.situation) in
      let ends = enough_rooms (rules q) q.length q.situation few.2 rooms from_start h some (omega (arith, whole)) in
      let w = whole_key q few rooms h ends in
      record {
        none_refused = t.none_refused;
        ended = ap remain t.the_parts ∙ ends;
        slots_joined = ap joined t.the_parts ∙ w.0;
        counted = ap total t.the_parts ∙ w.1;
      }
