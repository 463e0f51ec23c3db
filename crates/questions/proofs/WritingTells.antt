-- What writing a question tells and leaves: its refusal, or 24 where the room is too short, or its length. Assumes nothing.
use Prim.Native.Nat.{ℕ, ◌≤◌, ◌<◌}
use mathlib.Core.Path.{◌≡◌}
use mathlib.Core.List.{List}
use native.Mathlib.Omega.{arith}
use borrow.Author.Tests.{le-leb, lt-leb, ne_eqb}
use lib.ListN.{length}
use Rattle.paper.specs.Question.{Question, written}
use Rattle.paper.specs.Refusal.{refusal_of}
use Rattle.forms.specs.Form.{laid}
use Rattle.questions.specs.Write.{Written, write_refusal, written_of, room_after}

abbrev Tells : Question → List ℕ → Written → List ℕ → Type 0
Tells q room told after = (told ≡ written_of q room) × (after ≡ room_after q room)

module _ (q : Question) (room : List ℕ) where
  tells_refusal : (r : ℕ) → write_refusal q room ≡ r → (r ≡ 0 → ⊥) → Tells q room (record { refusal = r; length = 0 }) room
  unfolding written_of room_after
  tells_refusal r e z = (rw (e, ne_eqb r 0 z), rw (e, ne_eqb r 0 z))

  pub tells_its_refusal : (r : ℕ) → r ≡ refusal_of q → (r ≡ 0 → ⊥) → Tells q room (record { refusal = r; length = 0 }) room
  unfolding write_refusal
  tells_its_refusal r e z = tells_refusal r (rw (← e, ne_eqb r 0 z)) z

  module _ (ok : refusal_of q ≡ 0) where
    pub tells_short_room : length room < length (written q) → Tells q room (record { refusal = 24; length = 0 }) room
    unfolding write_refusal
    tells_short_room l = tells_refusal 24 (rw (ok, lt-leb _ _ l)) (λ z. omega arith)

    pub tells_length : length (written q) ≤ length room → Tells q room (record { refusal = 0; length = length (written q) }) (laid (written q) room)
    unfolding write_refusal written_of room_after
    tells_length l = (rw (ok, le-leb _ _ l), rw (ok, le-leb _ _ l))
