-- Doubling and halving step by step: what is left to do gives what was asked. Assumes nothing.
use mathlib.Core.Path.{◌≡◌, sym, ap, ◌∙◌, subst}
use mathlib.Core.Logic.{inl, inr}
use Prim.Native.Nat.{ℕ, suc, ◌+◌, ◌-◌, ◌*◌, ◌/◌, ◌%◌, ◌^◌, ◌≤◌, ◌<◌, min}
use native.Mathlib.Nat.{div-one, lt_of_le_of_lt, div-le_self, mul-pos, mul_comm, mul_assoc, mul-one, le-mul_of_pos_right, pow-succ', div-add-mod', div-div-eq-div-mul, add-mul-div_right, mul-add-div_right, add-div_right, div-eq_of_lt, div-eq_of_lt-le, mul-div-mul_right, mul-le-mul, mod-lt, eq-zero-or-pos, ne_of_gt, le_trans, le_of_eq}
use native.Mathlib.Omega.{arith}
use lib.Pow.{pow_pos, pow_mono, pow-add}
use Rattle.std.specs.Int.{div_ceil}
use Rattle.numeric.specs.Inner.{cut_down, cut_up}
use Rattle.numeric.proofs.Comparing.{sub_mul}
use Rattle.numeric.proofs.Scaling.{down_small, up_exact, up_inexact}

-- ---- n / c, cut up
abbrev pub up : ℕ → ℕ → ℕ
up n c = (n + (c - 1)) / c

up_multiple : (n d : ℕ) → 0 < d → up (n * d) d ≡ n
up_multiple n d D = mul-add-div_right D n (d - 1) ∙ ap (λ (z : ℕ). n + z) (div-eq_of_lt {n = d - 1} {m = d} (omega arith)) ∙ (omega arith)

-- cut up twice is cut up once
pub up_up : (n a b : ℕ) → 0 < a → 0 < b → up (up n a) b ≡ up n (a * b)
up_up n a b P Q =
    ap (λ (z : ℕ). z / b) (sym (add-mul-div_right (n + (a - 1)) (b - 1) P))
    ∙ div-div-eq-div-mul (n + (a - 1) + (b - 1) * a) a b
    ∙ ap (λ (z : ℕ). z / (a * b)) (rest (a * b) ((b - 1) * a) (sub_mul b 1 a ∙ ap (λ (z : ℕ). z - 1 * a) (mul_comm b a)) (le-mul_of_pos_right a Q))
  where
    rest : (ab less : ℕ) → less ≡ ab - 1 * a → a ≤ ab → n + (a - 1) + less ≡ n + (ab - 1)
    rest ab less e h = omega arith

-- both sides of a fraction times d
up_times : (n c d : ℕ) → 0 < c → 0 < d → up (n * d) (c * d) ≡ up n c
up_times n c d C D =
    ap (λ (z : ℕ). up (n * d) z) (mul_comm c d)
    ∙ sym (up_up (n * d) d c D C)
    ∙ ap (λ (z : ℕ). up z c) (up_multiple n d D)

whole : (n c : ℕ) → 0 < c → n % c ≡ 0 → up n c ≡ n / c
whole n c C z = ap (λ (x : ℕ). up x c) (sym (div-add-mod' n c) ∙ ap (λ (x : ℕ). n / c * c + x) z ∙ (omega arith)) ∙ up_multiple (n / c) c C

parted : (n c : ℕ) → 0 < c → 0 < n % c → up n c ≡ n / c + 1
parted n c C p =
    ap (λ (x : ℕ). (x + (c - 1)) / c) (sym (div-add-mod' n c))
    ∙ ap (λ (x : ℕ). x / c) (regrouped (n / c * c) (n % c) p C)
    ∙ mul-add-div_right C (n / c) (n % c - 1 + c)
    ∙ ap (λ (x : ℕ). n / c + x) (add-div_right (n % c - 1) C ∙ ap (λ (x : ℕ). x + 1) (div-eq_of_lt {n = n % c - 1} {m = c} (less (n % c) (mod-lt n C))))
  where
    regrouped : (q r : ℕ) → 0 < r → 0 < c → q + r + (c - 1) ≡ q + (r - 1 + c)
    regrouped q r p C = omega arith

    less : (r : ℕ) → r < c → r - 1 < c
    less r h = omega arith

-- as the code cuts up
pub ceil_is : (n c : ℕ) → 0 < c → div_ceil n c ≡ up n c
ceil_is n c C =
    elim (eq-zero-or-pos (n % c)) [
      | inl z ↦ none (n / c) (n % c) z ∙ sym (whole n c C z)
      | inr p ↦ one (n / c) (n % c) p ∙ sym (parted n c C p)
    ]
  where
    none : (q r : ℕ) → r ≡ 0 → q + min 1 r ≡ q
    none q r z = omega arith

    one : (q r : ℕ) → 0 < r → q + min 1 r ≡ q + 1
    one q r p = omega arith

pub up_cut : (n c : ℕ) → 0 < c → n ≤ 2 ^ 44 → up n c ≡ cut_up n c
up_cut n c C h =
    elim (eq-zero-or-pos (n % c)) [
      | inl z ↦ whole n c C z ∙ up_exact n c h z
      | inr p ↦ parted n c C p ∙ up_inexact n c h (ne_of_gt p)
    ]

-- of what is not above c only whether it is 0 is left
up_small : (n c : ℕ) → 0 < c → n ≤ c → up n c ≡ min n 1
up_small n c C h =
    elim (eq-zero-or-pos n) [
      | inl z ↦ subst (λ (x : ℕ). up x c ≡ min x 1) (sym z) (div-eq_of_lt {n = 0 + (c - 1)} {m = c} (omega arith))
      | inr p ↦ div-eq_of_lt-le {k = 1} c {m = n + (c - 1)} (omega arith) (omega arith) ∙ (omega arith)
    ]

-- ---- one step
power : (left : ℕ) → 0 < left → 2 ^ left ≡ 2 * 2 ^ (left - 1)
power left h = ap (λ (z : ℕ). 2 ^ z) (one_more left h) ∙ pow-succ' 2 (left - 1)
  where
    one_more : (left : ℕ) → 0 < left → left ≡ suc (left - 1)
    one_more left h = omega arith

mul_step : (m left : ℕ) → 0 < left → m * 2 * 2 ^ (left - 1) ≡ m * 2 ^ left
mul_step m left h = mul_assoc m 2 (2 ^ (left - 1)) ∙ ap (λ (z : ℕ). m * z) (sym (power left h))

div_step : (low at : ℕ) → 0 < at → low / 2 / 2 ^ (at - 1) ≡ low / 2 ^ at
div_step low at h = div-div-eq-div-mul low 2 (2 ^ (at - 1)) ∙ ap (λ (z : ℕ). low / z) (sym (power at h))

up_step : (high at : ℕ) → 0 < at → up ((high + 1) / 2) (2 ^ (at - 1)) ≡ up high (2 ^ at)
up_step high at h = up_up high 2 (2 ^ (at - 1)) (omega arith) (pow_pos (at - 1)) ∙ ap (λ (z : ℕ). up high z) (sym (power at h))

-- ---- one step of those from at to to
one_less : (to at : ℕ) → to - (at + 1) ≡ to - at - 1
one_less to at = omega arith

some : (to at : ℕ) → at < to → 0 < to - at
some to at h = omega arith

pub mul_on : (m to at x : ℕ) → at < to → m * 2 ^ (to - at) ≡ x → m * 2 * 2 ^ (to - (at + 1)) ≡ x
mul_on m to at x h e = ap (λ (z : ℕ). m * 2 * 2 ^ z) (one_less to at) ∙ mul_step m (to - at) (some to at h) ∙ e

pub div_on : (low to at x : ℕ) → at < to → low / 2 ^ (to - at) ≡ x → low / 2 / 2 ^ (to - (at + 1)) ≡ x
div_on low to at x h e = ap (λ (z : ℕ). low / 2 / 2 ^ z) (one_less to at) ∙ div_step low (to - at) (some to at h) ∙ e

pub up_on : (high next to at x : ℕ) → next ≡ div_ceil high 2 → at < to → up high (2 ^ (to - at)) ≡ x → up next (2 ^ (to - (at + 1))) ≡ x
up_on high next to at x n h e = ap (λ (z : ℕ). up z (2 ^ (to - (at + 1)))) (n ∙ ceil_is high 2 (omega arith)) ∙ ap (λ (z : ℕ). up ((high + 1) / 2) (2 ^ z)) (one_less to at) ∙ up_step high (to - at) (some to at h) ∙ e

-- ---- none is left
pub mul_done : (m left : ℕ) → left ≡ 0 → m ≡ m * 2 ^ left
mul_done m left e = sym (ap (λ (z : ℕ). m * 2 ^ z) e ∙ mul-one m)

pub div_done : (low left : ℕ) → left ≡ 0 → low ≡ low / 2 ^ left
div_done low left e = sym (ap (λ (z : ℕ). low / 2 ^ z) e ∙ div-one low)

pub up_done : (high left : ℕ) → left ≡ 0 → high ≡ up high (2 ^ left)
up_done high left e = sym (ap (λ (z : ℕ). up high (2 ^ z)) e ∙ div-one (high + 0) ∙ (omega arith))

-- ---- what is doubled grows
pub mul_grows : (m left : ℕ) → m ≤ m * 2 ^ left
mul_grows m left = le-mul_of_pos_right m (pow_pos left)

-- one doubling more of those that are left
pub mul_next : (m left x : ℕ) → 0 < left → m * 2 ^ left ≡ x → m * 2 ≤ x
mul_next m left x h e = le_trans (mul_grows (m * 2) (left - 1)) (le_of_eq (mul_step m left h ∙ e))

-- ---- those that are left change nothing: what is below the lower side gives 0, and cut up 0 or 1
pub low_below : (low left lower : ℕ) → low < lower → low / lower ≡ low / 2 ^ left / lower
low_below low left lower h = div-eq_of_lt h ∙ sym (div-eq_of_lt (lt_of_le_of_lt (div-le_self low (2 ^ left)) h))

pub high_below : (high left lower : ℕ) → 0 < lower → high ≤ lower → up high lower ≡ up (up high (2 ^ left)) lower
high_below high left lower C h =
    up_small high lower C h
    ∙ sym (up_small high (2 ^ left * lower) (mul-pos (pow_pos left) C) (le_trans h (le_trans (le-mul_of_pos_right lower (pow_pos left)) (le_of_eq (mul_comm lower (2 ^ left))))))
    ∙ sym (up_up high (2 ^ left) lower (pow_pos left) C)

-- ---- both sides of n / 2 ^ k doubled while the lower one is less than 2 ^ to, or halved while it is more, and divided
pub doubled_fits : (n k to : ℕ) → n ≤ 2 ^ 44 → to ≤ k + 8 → n * 2 ^ (to - k) ≤ 2 ^ 52
doubled_fits n k to h g = mul-le-mul h (pow_mono (few g))
  where
    few : to ≤ k + 8 → to - k ≤ 8
    few g = omega arith

sides : (k to : ℕ) → 2 ^ (k - to) * 2 ^ to ≡ 2 ^ k * 2 ^ (to - k)
sides k to = sym (pow-add 2 (k - to) to) ∙ ap (λ (z : ℕ). 2 ^ z) (greater k to) ∙ pow-add 2 k (to - k)
  where
    greater : (k to : ℕ) → k - to + to ≡ k + (to - k)
    greater k to = omega arith

pub stepped_low : (n k to : ℕ) → n ≤ 2 ^ 44 → n * 2 ^ (to - k) / (2 ^ (k - to) * 2 ^ to) ≡ cut_down n (2 ^ k)
stepped_low n k to h =
    ap (λ (z : ℕ). n * 2 ^ (to - k) / z) (sides k to)
    ∙ mul-div-mul_right n (2 ^ k) (pow_pos (to - k))
    ∙ down_small n (2 ^ k) h

pub stepped_high : (n k to : ℕ) → n ≤ 2 ^ 44 → div_ceil (n * 2 ^ (to - k)) (2 ^ (k - to) * 2 ^ to) ≡ cut_up n (2 ^ k)
stepped_high n k to h =
    ceil_is (n * 2 ^ (to - k)) (2 ^ (k - to) * 2 ^ to) (mul-pos (pow_pos (k - to)) (pow_pos to))
    ∙ ap (λ (z : ℕ). up (n * 2 ^ (to - k)) z) (sides k to)
    ∙ up_times n (2 ^ k) (2 ^ (to - k)) (pow_pos k) (pow_pos (to - k))
    ∙ up_cut n (2 ^ k) (pow_pos k) h

-- the lower side as the code shifts it
pub lower_is : (to : ℕ) → to ≤ 24 → 1 * 2 ^ to % 2 ^ 64 ≡ 2 ^ to
lower_is to h = let few : 2 ^ to ≤ 2 ^ 24 = pow_mono h in omega arith

-- what the functions of `scaled.rt` want of their steps
pub ruleset doubling = (mul_on, mul_done, mul_next, doubled_fits)

pub ruleset dividing = (stepped_low, stepped_high)
