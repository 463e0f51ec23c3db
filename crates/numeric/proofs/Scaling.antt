-- Scaling by powers of two: a fraction has the same cut values when both its sides are multiplied. Assumes nothing.
use Rattle.std.specs.Prelude.{if◌then◌else◌}
use mathlib.Core.Path.{◌≡◌, sym, ap, ◌∙◌}
use mathlib.Core.Logic.{inl, inr}
use Prim.Native.Nat.{ℕ, ◌+◌, ◌-◌, ◌*◌, ◌/◌, ◌%◌, ◌^◌, ◌≤◌, ◌<◌, min}
use native.Mathlib.Nat.{zero-mul, add-zero, div-le_self, sub-add_cancel, mul-div-mul_right, mul-div_cancel, mul-mod_left, mul_assoc, eq-zero-or-pos, mul-pos, ne_of_gt}
use native.Mathlib.Omega.{arith}
use mathlib.Core.Bool.{Bool}
use lib.Dec.{eqb}
use lib.Arith.{mod-mul}
use lib.Pow.{pow_pos, pow-add, shl-shr}
use borrow.Author.Tests.{eq-eqb, ne_eqb}
use Rattle.numeric.specs.Inner.{cut_down, cut_up}
use Rattle.numeric.proofs.Cutting.{up_at, up_past}

-- ---- a small number by 2 ^ k
pub down_small : (n c : ℕ) → n ≤ 2 ^ 44 → n / c ≡ cut_down n c
down_small n c h = omega (arith, div-le_self n c)

pub up_exact : (n c : ℕ) → n ≤ 2 ^ 44 → n % c ≡ 0 → n / c ≡ cut_up n c
up_exact n c h e = down_small n c h ∙ sym (up_at n c e)

pub up_inexact : (n c : ℕ) → n ≤ 2 ^ 44 → (n % c ≡ 0 → ⊥) → n / c + 1 ≡ cut_up n c
up_inexact n c h e = ap (λ (z : ℕ). z + 1) (down_small n c h) ∙ sym (up_past n c e)

-- ---- a fraction whose parts are both multiplied by 2 ^ k
zero_alike : (x c : ℕ) → 0 < c → eqb (x * c) 0 ≡ eqb x 0
zero_alike x c C =
    elim (eq-zero-or-pos x) [
      | inl z ↦ eq-eqb (x * c) 0 (ap (λ (y : ℕ). y * c) z ∙ zero-mul c) ∙ sym (eq-eqb x 0 z)
      | inr p ↦ ne_eqb (x * c) 0 (ne_of_gt (mul-pos p C)) ∙ sym (ne_eqb x 0 (ne_of_gt p))
    ]

mod_both : (n j k : ℕ) → (n * 2 ^ k) % (2 ^ j * 2 ^ k) ≡ n % 2 ^ j * 2 ^ k
mod_both n j k =
    mod-mul (n * 2 ^ k) (pow_pos j) (pow_pos k)
    ∙ ap (λ (z : ℕ). z % 2 ^ j * 2 ^ k + n * 2 ^ k % 2 ^ k) (shl-shr n k)
    ∙ ap (λ (z : ℕ). n % 2 ^ j * 2 ^ k + z) (mul-mod_left n (2 ^ k))
    ∙ add-zero (n % 2 ^ j * 2 ^ k)

down_both : (n j k : ℕ) → cut_down n (2 ^ j) ≡ cut_down (n * 2 ^ k) (2 ^ j * 2 ^ k)
down_both n j k = ap (λ (z : ℕ). min z (2 ^ 44)) (sym (mul-div-mul_right n (2 ^ j) (pow_pos k)))

up_both : (n j k : ℕ) → cut_up n (2 ^ j) ≡ cut_up (n * 2 ^ k) (2 ^ j * 2 ^ k)
up_both n j k =
    ap (λ (z : ℕ). z + (if eqb (n % 2 ^ j) 0 then 0 else 1)) (down_both n j k)
    ∙ ap (λ (b : Bool). cut_down (n * 2 ^ k) (2 ^ j * 2 ^ k) + (if b then 0 else 1)) (sym (ap (λ (z : ℕ). eqb z 0) (mod_both n j k) ∙ zero_alike (n % 2 ^ j) (2 ^ k) (pow_pos k)))

split : (w k : ℕ) → k ≤ w → 2 ^ (w - k) * 2 ^ k ≡ 2 ^ w
split w k h = sym (pow-add 2 (w - k) k) ∙ ap (λ (z : ℕ). 2 ^ z) (sub-add_cancel h)

pub down_scale : (n w k : ℕ) → k ≤ w → cut_down n (2 ^ (w - k)) ≡ cut_down (n * 2 ^ k) (2 ^ w)
down_scale n w k h = down_both n (w - k) k ∙ ap (λ (z : ℕ). cut_down (n * 2 ^ k) z) (split w k h)

pub up_scale : (n w k : ℕ) → k ≤ w → cut_up n (2 ^ (w - k)) ≡ cut_up (n * 2 ^ k) (2 ^ w)
up_scale n w k h = up_both n (w - k) k ∙ ap (λ (z : ℕ). cut_up (n * 2 ^ k) z) (split w k h)

-- ---- a whole number
whole_up : (x c : ℕ) → 0 < c → min x (2 ^ 44) ≡ cut_up (x * c) c
whole_up x c C = ap (λ (z : ℕ). min z (2 ^ 44)) (sym (mul-div_cancel x C)) ∙ sym (up_at (x * c) c (mul-mod_left x c))

more : (n w k : ℕ) → w ≤ k → n * 2 ^ (k - w) * 2 ^ w ≡ n * 2 ^ k
more n w k h = mul_assoc n (2 ^ (k - w)) (2 ^ w) ∙ ap (λ (z : ℕ). n * z) (split k w h)

pub down_whole : (n w k : ℕ) → w ≤ k → min (n * 2 ^ (k - w)) (2 ^ 44) ≡ cut_down (n * 2 ^ k) (2 ^ w)
down_whole n w k h = ap (λ (z : ℕ). min z (2 ^ 44)) (sym (mul-div_cancel (n * 2 ^ (k - w)) (pow_pos w))) ∙ ap (λ (z : ℕ). cut_down z (2 ^ w)) (more n w k h)

pub up_whole : (n w k : ℕ) → w ≤ k → min (n * 2 ^ (k - w)) (2 ^ 44) ≡ cut_up (n * 2 ^ k) (2 ^ w)
up_whole n w k h = whole_up (n * 2 ^ (k - w)) (2 ^ w) (pow_pos w) ∙ ap (λ (z : ℕ). cut_up z (2 ^ w)) (more n w k h)

-- what `scaled` wants of a step
pub ruleset scaling = (down_scale, up_scale, down_whole, up_whole)
