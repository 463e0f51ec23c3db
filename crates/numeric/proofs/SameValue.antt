-- Equal values are judged alike. Assumes nothing.
use mathlib.Core.Path.{◌≡◌, refl, sym, ap, ◌∙◌}
use Prim.Native.Nat.{ℕ, suc, ◌+◌, ◌*◌, ◌/◌, ◌<◌, min}
use native.Mathlib.Nat.{le_trans, le_of_eq, lt_of_le_of_lt, lt_of_lt_of_le, add-mul, mul_comm, mul_assoc, mul_left_comm, mul_right_comm, mul-le-mul_right, le_of_mul-le-mul_right, mul-lt-mul_of_pos_right, lt_of_mul-lt-mul_right, mul-pos}
use mathlib.Core.Bool.{Bool, true, false}
use lib.Ieee.{Float, nan, inf, fin, up, down}
use lib.Ieee.Fits.{down_pos}
use lib.Ieee.Exact.{HasValue}
use lib.Ieee.Nearest.{div_same}
use Rattle.numeric.specs.Exact.{Fraction, Value, apart, distance, right, below, signed, signed_error, is_number, exact_value}
use Rattle.numeric.proofs.Comparing.{apart_mul, leb_alike}

-- the value ±a / c
abbrev pub value : Bool → ℕ → ℕ → Value
value s a c = record { minus = s; over = a; under = c }

module _ (t : Fraction) (a c a' c' : ℕ) (C : 0 < c) (C' : 0 < c') (e : a * c' ≡ a' * c) where
  mine : a * t.bottom * c' ≡ a' * t.bottom * c
  mine = mul_right_comm a t.bottom c' ∙ ap (λ (z : ℕ). z * t.bottom) e ∙ mul_right_comm a' c t.bottom

  theirs : t.top * c * c' ≡ t.top * c' * c
  theirs = mul_right_comm t.top c c'

  distance_alike : (s : Bool) → distance t (value s a c) * c' ≡ distance t (value s a' c') * c
  distance_alike true = add-mul (a * t.bottom) (t.top * c) c' ∙ ap (λ (z : ℕ). z + t.top * c * c') mine ∙ ap (λ (z : ℕ). a' * t.bottom * c + z) theirs ∙ sym (add-mul (a' * t.bottom) (t.top * c') c)
  distance_alike false = apart_mul (a * t.bottom) (t.top * c) c' ∙ ap (λ (z : ℕ). apart z (t.top * c * c')) mine ∙ ap (λ (z : ℕ). apart (a' * t.bottom * c) z) theirs ∙ sym (apart_mul (a' * t.bottom) (t.top * c') c)

  thousand_alike : (s : Bool) → 1000 * distance t (value s a c) * c' ≡ 1000 * distance t (value s a' c') * c
  thousand_alike s = mul_assoc 1000 (distance t (value s a c)) c' ∙ ap (λ (z : ℕ). 1000 * z) (distance_alike s) ∙ sym (mul_assoc 1000 (distance t (value s a' c')) c)

  pub right_alike : (s : Bool) (tolerance : ℕ) → right t tolerance (value s a c) ≡ right t tolerance (value s a' c')
  right_alike s tolerance = leb_alike x y x' y' (
    (λ l. le_of_mul-le-mul_right (le_trans (le_of_eq (sym (thousand_alike s))) (le_trans (mul-le-mul_right c' l) (le_of_eq g))) C),
    (λ l. le_of_mul-le-mul_right (le_trans (le_of_eq (thousand_alike s)) (le_trans (mul-le-mul_right c l) (le_of_eq (sym g)))) C'),
  )
    where
      x : ℕ
      x = 1000 * distance t (value s a c)

      y : ℕ
      y = tolerance * (t.bottom * c)

      x' : ℕ
      x' = 1000 * distance t (value s a' c')

      y' : ℕ
      y' = tolerance * (t.bottom * c')

      g : tolerance * (t.bottom * c) * c' ≡ tolerance * (t.bottom * c') * c
      g = simp (mul_assoc, mul_comm, mul_left_comm)

  pub below_alike : (s : Bool) → below t (value s a c) ≡ below t (value s a' c')
  below_alike true = refl
  below_alike false = leb_alike (suc (a * t.bottom)) (t.top * c) (suc (a' * t.bottom)) (t.top * c') (
    (λ l. lt_of_mul-lt-mul_right c (lt_of_le_of_lt (le_of_eq (sym mine)) (lt_of_lt_of_le (mul-lt-mul_of_pos_right l C') (le_of_eq theirs)))),
    (λ l. lt_of_mul-lt-mul_right c' (lt_of_le_of_lt (le_of_eq mine) (lt_of_lt_of_le (mul-lt-mul_of_pos_right l C) (le_of_eq (sym theirs))))),
  )

  pub error_alike : 0 < t.bottom → (s : Bool) → signed_error t (value s a c) ≡ signed_error t (value s a' c')
  error_alike Q s =
      ap (λ (b : Bool). signed b (min (1000 * distance t (value s a c) / (t.bottom * c)) 1000000)) (below_alike s)
      ∙ ap (λ (z : ℕ). signed (below t (value s a' c')) (min z 1000000)) (div_same (1000 * distance t (value s a c)) (t.bottom * c) (1000 * distance t (value s a' c')) (t.bottom * c') (mul-pos Q C) (mul-pos Q C')
      (mul_left_comm (1000 * distance t (value s a c)) t.bottom c' ∙ ap (λ (z : ℕ). t.bottom * z) (thousand_alike s) ∙ sym (mul_left_comm (1000 * distance t (value s a' c')) t.bottom c)))

-- ---- a float that equals ±a / c
module _ (t : Fraction) (s : Bool) (a c : ℕ) (C : 0 < c) where
  pub right_of : (tolerance : ℕ) (x : Float) → HasValue x s a c → right t tolerance (value s a c) ≡ right t tolerance (exact_value x)
  right_of tolerance nan h = absurd h
  right_of tolerance (inf r) h = absurd h
  right_of tolerance (fin r m e) h =
      right_alike t a c (m * up e) (down e) C (down_pos e) (sym h.1) s tolerance ∙ ap (λ (b : Bool). right t tolerance (value b (m * up e) (down e))) (sym h.0)

  pub error_of : 0 < t.bottom → (x : Float) → HasValue x s a c → signed_error t (value s a c) ≡ signed_error t (exact_value x)
  error_of Q nan h = absurd h
  error_of Q (inf r) h = absurd h
  error_of Q (fin r m e) h =
      error_alike t a c (m * up e) (down e) C (down_pos e) (sym h.1) Q s ∙ ap (λ (b : Bool). signed_error t (value b (m * up e) (down e))) (sym h.0)

pub number_of : (x : Float) (s : Bool) (a c : ℕ) → HasValue x s a c → is_number x ≡ true
number_of nan s a c h = absurd h
number_of (inf r) s a c h = absurd h
number_of (fin r m e) s a c h = refl
