-- What number a bit pattern of an `f32` stands for. Assumes nothing.
use Rattle.std.specs.Prelude.{if◌then◌else◌}
use mathlib.Core.Path.{◌≡◌, refl, sym, ap, ◌∙◌, subst}
use Prim.Native.Nat.{ℕ, zero, suc, ◌+◌, ◌-◌, ◌*◌, ◌/◌, ◌%◌, ◌^◌, ◌≤◌, ◌<◌}
use mathlib.Core.Logic.{inl, inr}
use native.Mathlib.Nat.{eq-zero-or-pos, ne_of_gt, suc-ne-zero}
use native.Mathlib.Omega.{arith}
use mathlib.Core.Bool.{Bool, true, false, not, cond}
use lib.Dec.{T, leb, ltb, eqb, eqb→eq, nltb→le, not_T}
use borrow.Author.Tests.{lt-ltb, le-ltb, eq-eqb, ne_eqb}
use lib.Ieee.{Float, nan, inf, fin, binary32, odd, of_fields, of_bits, to_bits, fits, is_nan as nan_float, nan_bits as nan_pattern, ne, div}
use lib.Ieee.Bits.{cond_no, of_bits-to_bits, nan_bits_is, nan_bits_above}
use lib.Ieee.Compare.{differs_from_itself, nan_differs}
use lib.Ieee.Exact.{HasValue, odd_sign}
use Rattle.std.specs.Float.{float_is_finite}
use Rattle.numeric.specs.Exact.{is_number}
use Rattle.numeric.specs.Inner.{negative_of, digits_of, power_of}

of_bits_is : (b : ℕ) → of_bits binary32 b ≡ of_fields binary32 (leb 2147483648 b) (b % 2147483648 / 8388608) (b % 8388608)
unfolding of_bits
of_bits_is b = refl

differ : (x : ℕ) → suc x < 255 → suc x ≡ 255 → ⊥
differ x h e = omega arith

fields : (s : Bool) (x t d : ℕ) → x < 255 → d ≡ (if eqb x 0 then t else 8388608 + t) → HasValue (of_fields binary32 s x t) s (d * 2 ^ (x - 1)) (2 ^ 149)
unfolding of_fields
fields s zero t d h e = subst (λ (z : ℕ). HasValue (odd 24 s t 0 149) s (z * 2 ^ 0) (2 ^ 149)) (sym e) (odd_sign 24 s t 0 149)
fields s (suc x) t d h e =
    let y : of_fields binary32 s (suc x) t ≡ odd 24 s (8388608 + t) x 149 = cond_no (eqb (suc x) 255) (cond (eqb t 0) (inf s) nan) (odd 24 s (8388608 + t) x 149) (not_T (eqb (suc x) 255) (λ (u : T (eqb (suc x) 255)). differ x h (eqb→eq (suc x) 255 u))) in
    let e' : d ≡ 8388608 + t = e ∙ ap (λ (b : Bool). if b then t else 8388608 + t) (ne_eqb (suc x) 0 (suc-ne-zero x)) in
    subst (λ (z : Float). HasValue z s (d * 2 ^ (suc x - 1)) (2 ^ 149)) (sym y)
    (subst (λ (z : ℕ). HasValue (odd 24 s (8388608 + t) x 149) s (z * 2 ^ (suc x - 1)) (2 ^ 149)) (sym e')
    (subst (λ (k : ℕ). HasValue (odd 24 s (8388608 + t) x 149) s ((8388608 + t) * 2 ^ k) (2 ^ 149)) (less x) (odd_sign 24 s (8388608 + t) x 149)))
  where
    less : (x : ℕ) → x ≡ suc x - 1
    less x = omega arith

alike : (b : ℕ) → digits_of b ≡ (if eqb (b % 2147483648 / 8388608) 0 then b % 8388608 else 8388608 + b % 8388608)
alike b =
    elim (eq-zero-or-pos (b % 2147483648 / 8388608)) [
      | inl z ↦
          ap (λ (t : Bool). if t then b % 8388608 else 8388608 + b % 8388608) (lt-ltb (b % 2147483648) 8388608 (low (b % 2147483648) z) ∙ sym (eq-eqb (b % 2147483648 / 8388608) 0 z))
      | inr p ↦
          ap (λ (t : Bool). if t then b % 8388608 else 8388608 + b % 8388608) (le-ltb (b % 2147483648) 8388608 (high (b % 2147483648) p) ∙ sym (ne_eqb (b % 2147483648 / 8388608) 0 (ne_of_gt p)))
    ]
  where
    low : (y : ℕ) → y / 8388608 ≡ 0 → y < 8388608
    low y h = omega arith

    high : (y : ℕ) → 0 < y / 8388608 → 8388608 ≤ y
    high y h = omega arith

pub value : (b : ℕ) → b % 2147483648 / 8388608 < 255 → HasValue (of_bits binary32 b) (negative_of b) (digits_of b * 2 ^ power_of b) (2 ^ 149)
value b h = subst (λ (z : Float). HasValue z (negative_of b) (digits_of b * 2 ^ power_of b) (2 ^ 149)) (sym (of_bits_is b)) (fields (leb 2147483648 b) (b % 2147483648 / 8388608) (b % 8388608) (digits_of b) h (alike b))

pub digits_lt : (b : ℕ) → digits_of b < 2 ^ 24
digits_lt b = go (ltb (b % 2147483648) 8388608)
  where
    go : (t : Bool) → (if t then b % 8388608 else 8388608 + b % 8388608) < 2 ^ 24
    go true = omega arith
    go false = omega arith

-- ---- the test of the code, and what it says of a float
pub finite_is : (x : Float) → float_is_finite x ≡ is_number x
unfolding float_is_finite
finite_is nan = refl
finite_is (inf s) = refl
finite_is (fin s m e) = refl

number_no_nan : (x : Float) → is_number x ≡ true → T (not (nan_float x))
unfolding nan_float
number_no_nan nan e = subst T (sym e) tt
number_no_nan (inf s) e = tt
number_no_nan (fin s m n) e = tt

pub no_nan : (x : Float) → ne x x ≡ false → T (not (nan_float x))
unfolding nan_float
no_nan nan e = subst T (sym nan_differs ∙ e) tt
no_nan (inf s) e = tt
no_nan (fin s m n) e = tt

pub is_nan : (x : Float) → ne x x ≡ true → x ≡ nan
is_nan x e = differs_from_itself x (subst T (sym e) tt)

pub is_inf : (x : Float) → T (fits binary32 x) → to_bits binary32 x % 2147483648 ≡ 2139095040 → x ≡ inf (negative_of (to_bits binary32 x))
unfolding of_fields
is_inf x h e =
    let b = to_bits binary32 x in
    let u : b % 2147483648 / 8388608 ≡ 255 = omega arith in
    let t : b % 8388608 ≡ 0 = omega arith in
    sym (of_bits-to_bits binary32 x h) ∙ of_bits_is b ∙ ap (λ (z : ℕ). of_fields binary32 (leb 2147483648 b) z (b % 8388608)) u ∙ ap (λ (z : ℕ). of_fields binary32 (leb 2147483648 b) 255 z) t

pub finite_field : (x : Float) → T (fits binary32 x) → T (not (nan_float x)) → (to_bits binary32 x % 2147483648 ≡ 2139095040 → ⊥) → to_bits binary32 x % 2147483648 / 8388608 < 255
finite_field x h n i =
    let b = to_bits binary32 x in
    let le : b % 2147483648 ≤ 2139095040 =
    nltb→le 2139095040 (b % 2147483648) (subst (λ (z : Bool). T (not z)) (ap nan_float (sym (of_bits-to_bits binary32 x h)) ∙ sym (nan_bits_is binary32 b) ∙ nan_bits_above binary32 b) n) in
    under (b % 2147483648) le i
  where
    under : (y : ℕ) → y ≤ 2139095040 → (y ≡ 2139095040 → ⊥) → y / 8388608 < 255
    under y h n = omega arith

-- a number is no NaN and not infinite
pub number_field : (x : Float) → T (fits binary32 x) → is_number x ≡ true → to_bits binary32 x % 2147483648 / 8388608 < 255
number_field x h n = finite_field x h (number_no_nan x n) (λ e. subst T (sym n ∙ ap is_number (is_inf x h e)) tt)

pub value_of : (x : Float) → T (fits binary32 x) → to_bits binary32 x % 2147483648 / 8388608 < 255 → HasValue x (negative_of (to_bits binary32 x)) (digits_of (to_bits binary32 x) * 2 ^ power_of (to_bits binary32 x)) (2 ^ 149)
value_of x h g = subst (λ (z : Float). HasValue z (negative_of (to_bits binary32 x)) (digits_of (to_bits binary32 x) * 2 ^ power_of (to_bits binary32 x)) (2 ^ 149)) (of_bits-to_bits binary32 x h) (value (to_bits binary32 x) g)

pub value_at : (x : Float) (s : Bool) (d k : ℕ) → T (fits binary32 x) → to_bits binary32 x % 2147483648 / 8388608 < 255 → s ≡ negative_of (to_bits binary32 x) → d ≡ digits_of (to_bits binary32 x) → k ≡ power_of (to_bits binary32 x) → HasValue x s (d * 2 ^ k) (2 ^ 149)
value_at x s d k h g es ed ek =
    subst (λ (t : Bool). HasValue x t (d * 2 ^ k) (2 ^ 149)) (sym es)
    (subst (λ (z : ℕ). HasValue x (negative_of (to_bits binary32 x)) (z * 2 ^ k) (2 ^ 149)) (sym ed)
    (subst (λ (z : ℕ). HasValue x (negative_of (to_bits binary32 x)) (digits_of (to_bits binary32 x) * 2 ^ z) (2 ^ 149)) (sym ek) (value_of x h g)))

-- ---- a pattern that is typed
pub no_nan_bits : (b : ℕ) → b % 2147483648 ≤ 2139095040 → T (not (nan_pattern binary32 b))
no_nan_bits b h = subst (λ (z : Bool). T (not z)) (sym (nan_bits_above binary32 b ∙ le-ltb 2139095040 (b % 2147483648) h)) tt

one_nan : (x : Float) → nan_float x ≡ true → x ≡ nan
unfolding nan_float
one_nan nan e = refl
one_nan (inf s) e = absurd (subst T (sym e) tt)
one_nan (fin s m k) e = absurd (subst T (sym e) tt)

zero_by_zero : div binary32 (of_bits binary32 0) (of_bits binary32 0) ≡ nan
unfolding div of_bits
zero_by_zero = refl

pub nan_bits : (b : ℕ) → 2139095040 < b % 2147483648 → div binary32 (of_bits binary32 0) (of_bits binary32 0) ≡ of_bits binary32 b
nan_bits b h = zero_by_zero ∙ sym (one_nan (of_bits binary32 b) (sym (nan_bits_is binary32 b) ∙ nan_bits_above binary32 b ∙ lt-ltb 2139095040 (b % 2147483648) h))
