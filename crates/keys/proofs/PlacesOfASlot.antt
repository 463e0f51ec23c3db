-- Nothing here has to be believed. The places of a slot, as a part of its bytes.
use Prim.Native.Nat.{ℕ, ◌+◌, ◌-◌, ◌≤◌}
use mathlib.Core.Path.{◌≡◌, sym, subst}
use mathlib.Core.Bool.{true}
use mathlib.Core.List.{List}
use native.Mathlib.Omega.{arith}
use lib.ListN.{length, take, drop, get_or}
use Rattle.keylaws.specs.Key.{Permitted}
use Rattle.keylaws.specs.Slots.{word_of, is_slot}
use Rattle.keylaws.proofs.SlotsOfWords.{slot_is}

module _ (x : List ℕ) (first : ℕ) (e : first ≡ get_or x 0 0) where
  pub places : take (1 + first - 1) (drop 1 x) ≡ word_of x
  unfolding word_of
  places = let k : 1 + first - 1 ≡ get_or x 0 0 = omega arith in rw k

  pub places_permitted : (n limit : ℕ) → limit ≤ 5 → is_slot n limit x ≡ true → (length (take (1 + first - 1) (drop 1 x)) ≤ 5) × Permitted n (take (1 + first - 1) (drop 1 x))
  places_permitted n limit short h =
      let w = slot_is n limit short x h in
      subst (λ (l : List ℕ). (length l ≤ 5) × Permitted n l) (sym places) (omega arith, w.2)
