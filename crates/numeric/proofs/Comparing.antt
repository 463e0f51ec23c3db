-- Tests and distances of whole numbers. Assumes nothing.
use mathlib.Core.Path.{◌≡◌, refl, sym, ap, ◌∙◌, subst}
use mathlib.Core.Logic.{◌↔◌}
use Prim.Native.Nat.{ℕ, ◌+◌, ◌-◌, ◌*◌, ◌≤◌, min}
use native.Mathlib.Nat.{lt_of_not-le, le_antisymm, add-mul, mul_comm, mul-sub}
use native.Mathlib.Omega.{arith}
use mathlib.Core.Bool.{Bool, true, false}
use lib.Dec.{T, leb, leb→le}
use borrow.Author.Tests.{le-leb, lt-leb}
use Rattle.numeric.specs.Exact.{apart}

pub sub_mul : (x y c : ℕ) → (x - y) * c ≡ x * c - y * c
sub_mul x y c = mul_comm (x - y) c ∙ mul-sub c x y ∙ ap (λ (z : ℕ). z - c * y) (mul_comm c x) ∙ ap (λ (z : ℕ). x * c - z) (mul_comm c y)

pub apart_mul : (x y c : ℕ) → apart x y * c ≡ apart (x * c) (y * c)
apart_mul x y c = add-mul (x - y) (y - x) c ∙ ap (λ (z : ℕ). z + (y - x) * c) (sub_mul x y c) ∙ ap (λ (z : ℕ). x * c - y * c + z) (sub_mul y x c)

-- two tests that hold together are equal
pub leb_alike : (x y u v : ℕ) → (x ≤ y) ↔ (u ≤ v) → leb x y ≡ leb u v
leb_alike x y u v h = go (leb x y) refl
  where
    go : (b : Bool) → leb x y ≡ b → leb x y ≡ leb u v
    go true e = e ∙ sym (le-leb u v (h.0 (leb→le x y (subst T (sym e) tt))))
    go false e = e ∙ sym (lt-leb u v (lt_of_not-le (λ (g : u ≤ v). subst T (sym (le-leb x y (h.1 g)) ∙ e) tt)))

-- two numbers with the same numbers below them, up to C, are equal up to C
pub same_below : (x y C : ℕ) → ((k : ℕ) → k ≤ C → (k ≤ x) ↔ (k ≤ y)) → min x C ≡ min y C
same_below x y C h = le_antisymm (one x y ((h (min x C) (cap x)).0 (left x))) (one y x ((h (min y C) (cap y)).1 (left y)))
  where
    cap : (x : ℕ) → min x C ≤ C
    cap x = omega arith

    left : (x : ℕ) → min x C ≤ x
    left x = omega arith

    one : (x y : ℕ) → min x C ≤ y → min x C ≤ min y C
    one x y g = omega arith
