-- The rounded fraction p / q is the nearest float, within one 2^24th part, and within 1 / 32 where p / q is below 2 ^ 20. Assumes nothing.
use mathlib.Core.Path.{◌≡◌, refl, sym, ap, ◌∙◌, subst}
use mathlib.Core.Logic.{inl, inr, ◌⊎◌}
use Prim.Native.Nat.{ℕ, zero, suc, ◌+◌, ◌-◌, ◌*◌, ◌/◌, ◌%◌, ◌^◌, ◌≤◌, ◌<◌, compare, Ordering}
use native.Mathlib.Nat.{le_trans, le_of_eq, le_of_lt, lt_of_lt_of_le, lt_of_le_of_lt, lt_of_not-le, not-le_of_lt, eq-or-lt_of_le, mul_comm, mul_assoc, mul_right_comm, suc-mul, one-mul, mul-one, mul-le-mul_right, mul-le-mul_left, le_of_mul-le-mul_right, mul-pos, mod-lt, div-add-mod', le-div_iff_mul-le, div-lt_iff_lt-mul, sub-add_cancel, add-zero, zero-mul, le-mul_of_pos_right, mul-lt-mul_of_pos_right, zero-lt-suc, le_of_suc-le-suc, le-add_left}
use native.Mathlib.Numerals.{add-one}
use native.Mathlib.Decide.{dec_le}
use native.Mathlib.Omega.{arith}
use mathlib.Core.Bool.{Bool, true, false, not, ◌&&◌, true≢false}
use lib.Dec.{T, is_le, compare_is_eq, eqb, leb, leb→le, nleb→lt, eqb→eq, eqb_refl, ltb, ltb→lt, lit≤}
use lib.Arith.{lt_of_le-ne}
use lib.Pow.{pow_pos, pow_mono, pow-lt, pow-add}
use lib.IntN.{ℤ, pos, negsuc}
use lib.Ieee.{Float, nan, inf, fin, binary32, up, down, size, nearest, round, fits}
use lib.Ieee.Digits.{size_reaches, size-le}
use lib.Ieee.Fits.{and_l, and_r}
use lib.Ieee.Exact.{HasValue}
use lib.Ieee.Nearest.{closest}
use lib.Ieee.Order.{drop}
use lib.Ieee.Scale.{grid, overflow, round_val, normal_of_fraction}
use Rattle.numeric.specs.Exact.{Fraction, apart, is_number}
use Rattle.numeric.specs.Nearest.{model_value, distance_of, under, Nearest}
use Rattle.numeric.proofs.Comparing.{apart_mul}

-- ---- what `compare` says
abbrev Cmp : Ordering → ℕ → ℕ → Type 0
Cmp Ordering.lt a b = a < b
Cmp Ordering.eq a b = a ≡ b
Cmp Ordering.gt a b = b < a

cmp : (a b : ℕ) → Cmp (compare a b) a b
cmp a b = go (compare a b) (leb→le a b) (nleb→lt a b) (eqb→eq a b) (λ (e : a ≡ b). subst (λ (x : ℕ). T (eqb a x)) e (eqb_refl a))
  where
    go : (o : Ordering) → (T (is_le o) → a ≤ b) → (T (not (is_le o)) → b < a) → (T (compare_is_eq o) → a ≡ b) → (a ≡ b → T (compare_is_eq o)) → Cmp o a b
    go Ordering.lt h k e n = lt_of_le-ne (h tt) n
    go Ordering.eq h k e n = e tt
    go Ordering.gt h k e n = k tt

-- ---- `closest a b` is within a half
half : (q r b : ℕ) (o : Ordering) → Cmp o (r * 2) b → r < b → apart (nearest q o * b) (q * b + r) * 2 ≤ b
half q r b Ordering.lt h l = omega arith
half q r b Ordering.eq h l = either (q % 2) refl
  where
    either : (t : ℕ) → q % 2 ≡ t → apart ((q + q % 2) * b) (q * b + r) * 2 ≤ b
    either zero e = subst (λ (z : ℕ). apart ((q + z) * b) (q * b + r) * 2 ≤ b) (sym e) (subst (λ (z : ℕ). apart (z * b) (q * b + r) * 2 ≤ b) (sym (add-zero q)) (omega arith))
    either (suc t) e =
        let one : q % 2 ≡ 1 = omega arith in
        subst (λ (z : ℕ). apart ((q + z) * b) (q * b + r) * 2 ≤ b) (sym one) (subst (λ (z : ℕ). apart z (q * b + r) * 2 ≤ b) (sym (ap (λ (z : ℕ). z * b) (add-one q) ∙ suc-mul q b)) (omega arith))
half q r b Ordering.gt h l = subst (λ (z : ℕ). apart z (q * b + r) * 2 ≤ b) (sym (suc-mul q b)) (omega arith)

pub within_half : (a b : ℕ) → 0 < b → apart (closest a b * b) a * 2 ≤ b
within_half a b B = subst (λ (z : ℕ). apart (closest a b * b) z * 2 ≤ b) (div-add-mod' a b) (half (a / b) (a % b) b (compare (a % b * 2) b) (cmp (a % b * 2) b) (mod-lt a B))

-- no other multiple of b is nearer
best : (a b j : ℕ) → 0 < b → apart (closest a b * b) a ≤ apart (j * b) a
best a b j B = go (decide j (closest a b))
  where
    decide : (x y : ℕ) → (x ≡ y) ⊎ ((x < y) ⊎ (y < x))
    decide x y = elim (dec_le x y) [
      | yes h ↦ elim (eq-or-lt_of_le h) [ inl e ↦ inl e | inr l ↦ inr (inl l) ]
      | no n ↦ inr (inr (lt_of_not-le n))
    ]

    step : (x y : ℕ) → x < y → x * b + b ≤ y * b
    step x y h = le_trans (le_of_eq (sym (suc-mul x b))) (mul-le-mul_right b h)

    go : (j ≡ closest a b) ⊎ ((j < closest a b) ⊎ (closest a b < j)) → apart (closest a b * b) a ≤ apart (j * b) a
    go (inl e) = le_of_eq (ap (λ (z : ℕ). apart (z * b) a) (sym e))
    go (inr (inl l)) = omega (arith, within_half a b B, step j (closest a b) l)
    go (inr (inr l)) = omega (arith, within_half a b B, step (closest a b) j l)

-- `omega` stops at numbers of more than 38 digits, as 2 ^ 149 is, so what it proves is said of variables
below_size : (z : ℕ) → 24 ≤ z → 23 + (z - 24) < z
below_size z h = omega arith

part : (x u n : ℕ) → x * 2 ≤ u → 2 ^ 23 * u ≤ n → x * 2 ^ 24 ≤ n
part x u n h g = omega arith

twice : (y n : ℕ) → apart y n * 2 ^ 24 ≤ n → y ≤ n + n
twice y n h = omega arith

both_lt : (n a : ℕ) → n < a → n + n < a + a
both_lt n a h = omega arith

farther : (x y z n : ℕ) → y ≤ z → z ≤ n → x ≤ apart z n → x ≤ apart y n
farther x y z n h g l = omega arith

next : (j k : ℕ) → j < k → 24 + j ≤ 23 + k
next j k h = omega arith

fewer : (z : ℕ) → z ≤ 169 → z - 24 ≤ 145
fewer z h = omega arith

-- ---- p / q rounded, in units of 2 ^ -149: n / q is the fraction, g the rounded value, u the step between neighbours times q
module _ (p q : ℕ) (P : 0 < p) (small : p < 2 ^ 24) (Q : 0 < q) (smallq : q < 2 ^ 24) where
  abbrev n : ℕ
  n = p * 2 ^ 149

  abbrev k : ℕ
  k = drop 24 n q

  abbrev u : ℕ
  u = q * 2 ^ k

  abbrev g : ℕ
  g = grid binary32 p q

  U : 0 < u
  U = mul-pos Q (pow_pos k)

  turned : (x : ℕ) → x * 2 ^ k * q ≡ x * u
  turned x = mul_assoc x (2 ^ k) q ∙ ap (λ (z : ℕ). x * z) (mul_comm (2 ^ k) q)

  g_is : g * q ≡ closest n u * u
  g_is = turned (closest n u)

  pub error_half : apart (g * q) n * 2 ≤ u
  error_half = subst (λ (z : ℕ). apart z n * 2 ≤ u) (sym g_is) (within_half n u U)

  normal : 24 ≤ size (n / q)
  normal =
      normal_of_fraction binary32 p q Q
      (le_trans (mul-le-mul_left (2 ^ 23) (le_of_lt smallq)) (le_trans (lit≤ {m = 2 ^ 23 * 2 ^ 24} {n = 2 ^ 149} tt) (le_trans (le_of_eq (sym (one-mul (2 ^ 149)))) (mul-le-mul_right (2 ^ 149) P))))

  reach : 2 ^ 23 * u ≤ n
  reach =
      le_trans (le_of_eq (sym (turned (2 ^ 23)) ∙ ap (λ (z : ℕ). z * q) (sym (pow-add 2 23 k))))
      ((le-div_iff_mul-le Q).0 (size_reaches (n / q) (23 + k) (below_size (size (n / q)) normal)))

  pub error_part : apart (g * q) n * 2 ^ 24 ≤ n
  error_part = part (apart (g * q) n) u n error_half reach

  no_overflow : g < overflow binary32
  no_overflow =
      lt_of_le_of_lt (le_trans (le-mul_of_pos_right g Q) (twice (g * q) n error_part))
      (lt_of_lt_of_le (both_lt n (2 ^ 24 * 2 ^ 149) (mul-lt-mul_of_pos_right small (pow_pos 149))) (lit≤ {m = 2 ^ 24 * 2 ^ 149 + 2 ^ 24 * 2 ^ 149} {n = overflow binary32} tt))

  pub value : HasValue (round binary32 false p q) false g (2 ^ 149)
  value = round_val binary32 p q no_overflow

  -- no multiple m * 2 ^ j of the unit, with m below 2 ^ 24, is nearer
  pub nearest_unit : (m j : ℕ) → m < 2 ^ 24 → apart (g * q) n ≤ apart (m * 2 ^ j * q) n
  nearest_unit m j h = elim (dec_le k j) [
    | yes l ↦
        let e : m * 2 ^ j * q ≡ m * 2 ^ (j - k) * u =
        ap (λ (z : ℕ). z * q) (ap (λ (z : ℕ). m * z) (sym (ap (λ (z : ℕ). 2 ^ z) (sub-add_cancel l)) ∙ pow-add 2 (j - k) k) ∙ sym (mul_assoc m (2 ^ (j - k)) (2 ^ k))) ∙ turned (m * 2 ^ (j - k)) in
        le_trans (le_of_eq (ap (λ (z : ℕ). apart z n) g_is)) (le_trans (best n u (m * 2 ^ (j - k)) U) (le_of_eq (ap (λ (z : ℕ). apart z n) (sym e))))
    | no f ↦
        let l : j < k = lt_of_not-le f in
        let a : m * 2 ^ j * q ≤ 2 ^ 23 * u =
        le_trans (mul-le-mul_right q (le_trans (mul-le-mul_right (2 ^ j) (le_of_lt h)) (le_trans (le_of_eq (sym (pow-add 2 24 j))) (le_trans (pow_mono (next j k l)) (le_of_eq (pow-add 2 23 k)))))) (le_of_eq (turned (2 ^ 23))) in
        let b : apart (g * q) n ≤ apart (2 ^ 23 * u) n = le_trans (le_of_eq (ap (λ (z : ℕ). apart z n) g_is)) (best n u (2 ^ 23) U) in
        farther (apart (g * q) n) (m * 2 ^ j * q) (2 ^ 23 * u) n a reach b
  ]

  -- within 1 / 32 where p / q is below 2 ^ 20
  pub error_32 : p < 2 ^ 20 * q → apart (g * q) n ≤ q * 2 ^ 144
  error_32 h =
      let s : size (n / q) ≤ 169 = size-le (n / q) 169 ((div-lt_iff_lt-mul Q).1 (lt_of_lt_of_le (mul-lt-mul_of_pos_right h (pow_pos 149)) (le_of_eq (mul_right_comm (2 ^ 20) q (2 ^ 149))))) in
      let v : u ≤ q * 2 ^ 144 * 2 = le_trans (mul-le-mul_left q (pow_mono (fewer (size (n / q)) s))) (le_of_eq (sym (mul_assoc q (2 ^ 144) 2))) in
      le_of_mul-le-mul_right (le_trans error_half v) (zero-lt-suc 1)

-- ---- from units to the float's own fraction a / c, where a * w ≡ y * c and w is 2 ^ 149
apart_scale : (a c y w p q : ℕ) → a * w ≡ y * c → apart (a * q) (p * c) * w ≡ apart (y * q) (p * w) * c
apart_scale a c y w p q e =
    apart_mul (a * q) (p * c) w
    ∙ ap (λ (z : ℕ). apart z (p * c * w)) (mul_right_comm a q w ∙ ap (λ (z : ℕ). z * q) e ∙ mul_right_comm y c q)
    ∙ ap (λ (z : ℕ). apart (y * q * c) z) (mul_right_comm p c w)
    ∙ sym (apart_mul (y * q) (p * w) c)

abbrev Tests : ℕ → ℤ → Type 0
Tests m e = T (eqb (suc m % 2) 1 && ltb (suc m) (2 ^ 24) && leb (down e) (2 ^ 149) && ltb (suc m * up e) (2 ^ 128 * down e))

digits : (m : ℕ) (e : ℤ) → Tests m e → suc m < 2 ^ 24
digits m e t =
    ltb→lt (suc m) (2 ^ 24)
    (and_r (eqb (suc m % 2) 1) (ltb (suc m) (2 ^ 24))
    (and_l (eqb (suc m % 2) 1 && ltb (suc m) (2 ^ 24)) (leb (down e) (2 ^ 149))
    (and_l (eqb (suc m % 2) 1 && ltb (suc m) (2 ^ 24) && leb (down e) (2 ^ 149)) (ltb (suc m * up e) (2 ^ 128 * down e)) t)))

deep : (m i : ℕ) → Tests m (negsuc i) → suc i ≤ 149
deep m i t =
    le_of_suc-le-suc
    (lt_of_not-le (λ (h : 150 ≤ suc i). not-le_of_lt (pow-lt {i = 149} {j = suc i} h)
    (leb→le (2 ^ suc i) (2 ^ 149)
    (and_r (eqb (suc m % 2) 1 && ltb (suc m) (2 ^ 24)) (leb (2 ^ suc i) (2 ^ 149))
    (and_l (eqb (suc m % 2) 1 && ltb (suc m) (2 ^ 24) && leb (2 ^ suc i) (2 ^ 149)) (ltb (suc m * 1) (2 ^ 128 * 2 ^ suc i)) t)))))

-- a finite f32 is m * 2 ^ j units
units : (s : Bool) (m : ℕ) (e : ℤ) → T (fits binary32 (fin s m e)) → (j : ℕ) × (m < 2 ^ 24) × (m * up e * 2 ^ 149 ≡ m * 2 ^ j * down e)
unfolding fits
units s zero e t = (0, pow_pos 24, zeroes (up e) (2 ^ 149) ∙ sym (zeroes (2 ^ 0) (down e)))
  where
    zeroes : (x y : ℕ) → 0 * x * y ≡ 0
    zeroes x y = ap (λ (z : ℕ). z * y) (zero-mul x) ∙ zero-mul y
units s (suc m) (pos i) t = (i + 149, digits m (pos i) t, mul_assoc (suc m) (2 ^ i) (2 ^ 149) ∙ ap (λ (z : ℕ). suc m * z) (sym (pow-add 2 i 149)) ∙ sym (mul-one (suc m * 2 ^ (i + 149))))
units s (suc m) (negsuc i) t = (
  149 - suc i,
  digits m (negsuc i) t,
  ap (λ (z : ℕ). z * 2 ^ 149) (mul-one (suc m)) ∙ ap (λ (z : ℕ). suc m * z) (sym (ap (λ (z : ℕ). 2 ^ z) (sub-add_cancel (deep m i t))) ∙ pow-add 2 (149 - suc i) (suc i)) ∙ sym (mul_assoc (suc m) (2 ^ (149 - suc i)) (2 ^ suc i)),
)

scaled_le : (X Y c d w x y : ℕ) → 0 < w → X * w ≡ x * c → Y * w ≡ y * d → x ≤ y → X * d ≤ Y * c
scaled_le X Y c d w x y W h g l =
    le_of_mul-le-mul_right
    (le_trans (le_of_eq (mul_right_comm X d w ∙ ap (λ (z : ℕ). z * d) h))
    (le_trans (mul-le-mul_right d (mul-le-mul_right c l)) (le_of_eq (mul_right_comm y c d ∙ ap (λ (z : ℕ). z * c) (sym g) ∙ mul_right_comm Y w c))))
    W

whole_part : (x y : ℕ) → x * 2 ^ 24 ≤ y → x ≤ y
whole_part x y h = omega arith

-- ---- the rounded fraction is the nearest float
module _ (t : Fraction) (P : 0 < t.top) (small : t.top < 2 ^ 24) (Q : 0 < t.bottom) (smallq : t.bottom < 2 ^ 24) where
  abbrev p : ℕ
  p = t.top

  abbrev q : ℕ
  q = t.bottom

  within_of : (r : Float) → HasValue r false (grid binary32 p q) (2 ^ 149) → distance_of t r * 2 ^ 24 ≤ p * under r
  within_of nan h = absurd h
  within_of (inf s) h = absurd h
  within_of (fin true m e) h = absurd (true≢false h.0)
  within_of (fin false m e) h =
      le_of_mul-le-mul_right {k = 2 ^ 149}
      (le_trans (le_of_eq (mul_right_comm (apart (m * up e * q) (p * down e)) (2 ^ 24) (2 ^ 149) ∙ ap (λ (z : ℕ). z * 2 ^ 24) (apart_scale (m * up e) (down e) (grid binary32 p q) (2 ^ 149) p q h.1) ∙ mul_right_comm (apart (grid binary32 p q * q) (p * 2 ^ 149)) (down e) (2 ^ 24)))
      (le_trans (mul-le-mul_right (down e) (error_part p q P small Q smallq)) (le_of_eq (mul_right_comm p (2 ^ 149) (down e)))))
      (pow_pos 149)

  nearest_of : (r : Float) → HasValue r false (grid binary32 p q) (2 ^ 149) → (y : Float) → T (fits binary32 y) → T (is_number y) → distance_of t r * under y ≤ distance_of t y * under r
  nearest_of nan h y f n = absurd h
  nearest_of (inf s) h y f n = absurd h
  nearest_of (fin true m e) h y f n = absurd (true≢false h.0)
  nearest_of (fin false m e) h nan f n = absurd n
  nearest_of (fin false m e) h (inf s) f n = absurd n
  nearest_of (fin false m e) h (fin true i d) f n =
      le_trans (mul-le-mul_right (down d) (whole_part (apart (m * up e * q) (p * down e)) (p * down e) (within_of (fin false m e) h)))
      (le_trans (le_of_eq (mul_right_comm p (down e) (down d))) (mul-le-mul_right (down e) (le-add_left (p * down d) (i * up d * q))))
  nearest_of (fin false m e) h (fin false i d) f n =
      let z = units false i d f in
      scaled_le (apart (m * up e * q) (p * down e)) (apart (i * up d * q) (p * down d)) (down e) (down d) (2 ^ 149) (apart (grid binary32 p q * q) (p * 2 ^ 149)) (apart (i * 2 ^ z.0 * q) (p * 2 ^ 149)) (pow_pos 149)
      (apart_scale (m * up e) (down e) (grid binary32 p q) (2 ^ 149) p q h.1) (apart_scale (i * up d) (down d) (i * 2 ^ z.0) (2 ^ 149) p q z.2) (nearest_unit p q P small Q smallq i z.0 z.1)

  number_of : (r : Float) → HasValue r false (grid binary32 p q) (2 ^ 149) → T (is_number r)
  number_of nan h = absurd h
  number_of (inf s) h = absurd h
  number_of (fin s m e) h = tt

  pub is_nearest : Nearest t (model_value t)
  is_nearest =
      let r = model_value t in
      let h = value p q P small Q smallq in
      record { number = number_of r h; within = within_of r h; nearest = nearest_of r h }
