-- Forms that are laid one after the other into a room. Assumes nothing.
use Prim.Native.Nat.{ℕ, ◌+◌, ◌-◌}
use mathlib.Core.Path.{◌≡◌, refl, sym}
use mathlib.Core.List.{List, [], ◌++◌, append_assoc, append-nil}
use native.Mathlib.Omega.{arith}
use lib.ListN.{length, take, drop, length-append, length-drop, drop_of_length-le}
use lib.Seq.{take_at, drop_at, drop-drop}
use Rattle.records.specs.Plan.{plan}
use Rattle.records.specs.Situation.{codes_of, situation}
use Rattle.records.specs.Lists.{events, readings, answer_length}
use Rattle.records.specs.Question.{question}
use Rattle.records.proofs.InBytes.{part_from}
use Rattle.paper.specs.Question.{Question, written}
use Rattle.forms.specs.Form.{laid}

-- so many bytes, a form, are put at the front of a room
abbrev pub Put : ℕ → List ℕ → List ℕ → List ℕ → Type 0
Put n form room after = (n ≡ length form) × (after ≡ laid form room)

-- a form is put, then another into the part after it
pub onto : {n m : ℕ} (a b room : List ℕ) {first part : List ℕ} → Put n a room first → Put m b (take (length first - n) (drop n first)) part
    → Put (n + m) (a ++ b) room (take n first ++ (part ++ drop (length first - n) (drop n first)))
onto {n} a b room {first} (h, e) (k, f) =
    let back : drop n first ≡ drop (length a) room = rw (e, drop_at a (drop (length a) room) n (sym h)) in
    let front : take n first ≡ a = rw (e, take_at a (drop (length a) room) n (sym h)) in
    let none : drop (length first - n) (drop n first) ≡ [] = drop_of_length-le (drop n first) {i = length first - n} (omega (arith, length-drop n first)) in
    (omega (arith, h, k, length-append a b), rw (f, none, part_from, back, front, append-nil, drop-drop, length-append, append_assoc))

-- ---- a question's records
module _ (q : Question) where
  pub length_long : length (answer_length.written q.length) ≡ 3
  unfolding answer_length
  length_long = refl

  pub records_laid : (((plan.written q.plan ++ situation.written (codes_of q.situation)) ++ events.written q.events) ++ readings.written q.readings) ++ answer_length.written q.length ≡ written q
  unfolding written question
  records_laid = simp append_assoc
