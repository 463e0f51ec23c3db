-- Nothing here has to be believed. Slots and continuations have six bytes.
use Prim.Native.Nat.{ℕ, ◌≤◌}
use mathlib.Core.Path.{◌≡◌, refl, ap, ◌∙◌}
use mathlib.Core.Logic.{◌⊎◌, inl, inr}
use mathlib.Core.Bool.{true}
use mathlib.Core.List.{List, [], ◌∷◌}
use native.Mathlib.Omega.{arith}
use lib.ListN.{length, get_or}
use Rattle.keylaws.specs.Slots.{slot_of, word_of, is_slot}
use Rattle.keylaws.specs.Continuation.{from_start, is_continuation}
use Rattle.keylaws.proofs.SlotsOfWords.{slot_is, length_slot, continuation_is}

pub six_bytes : (x : List ℕ) → length x ≡ 6 → get_or x 0 0 ∷ get_or x 1 0 ∷ get_or x 2 0 ∷ get_or x 3 0 ∷ get_or x 4 0 ∷ get_or x 5 0 ∷ [] ≡ x
six_bytes (a ∷ b ∷ c ∷ d ∷ e ∷ f ∷ []) h = refl
six_bytes [] h = absurd (omega arith)
six_bytes (a ∷ []) h = absurd (omega arith)
six_bytes (a ∷ b ∷ []) h = absurd (omega arith)
six_bytes (a ∷ b ∷ c ∷ []) h = absurd (omega arith)
six_bytes (a ∷ b ∷ c ∷ d ∷ []) h = absurd (omega arith)
six_bytes (a ∷ b ∷ c ∷ d ∷ e ∷ []) h = absurd (omega arith)
six_bytes (a ∷ b ∷ c ∷ d ∷ e ∷ f ∷ g ∷ x) h = absurd (omega arith)

pub slot_six : (n limit : ℕ) → limit ≤ 5 → (x : List ℕ) → is_slot n limit x ≡ true → length x ≡ 6
slot_six n limit h5 x h =
    let w = slot_is n limit h5 x h in
    ap length w.0 ∙ length_slot (word_of x) (omega arith)

pub continuation_six : (n limit : ℕ) → limit ≤ 5 → (x : List ℕ) → is_continuation n limit x ≡ true → length x ≡ 6
unfolding from_start
continuation_six n limit h5 x h = go (continuation_is n limit x h)
  where
    go : (x ≡ from_start) ⊎ (is_slot n limit x ≡ true) → length x ≡ 6
    go (inl e) = ap length e
    go (inr s) = slot_six n limit h5 x s

-- the length that a slot begins with
pub slot_first : (n limit : ℕ) → limit ≤ 5 → (x : List ℕ) → is_slot n limit x ≡ true → get_or x 0 0 ≤ 5
unfolding slot_of
slot_first n limit h5 x h =
    let w = slot_is n limit h5 x h in
    let e : get_or x 0 0 ≡ length (word_of x) = ap (λ (l : List ℕ). get_or l 0 0) w.0 in
    omega arith
