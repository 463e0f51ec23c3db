-- "Numbers typed by candidates": the exact answer, and how far a float lies from it, over whole numbers only. Definitions only.
use Rattle.std.specs.Prelude.{ℕ, ◌+◌, ◌-◌, ◌*◌, ◌/◌, min, Bool, true, false, ◌&&◌, ◌||◌, leb, ltb, eqb, ℤ, pos, neg_ℤ, Float, if◌then◌else◌}
use Rattle.std.specs.Float.{nan, inf, fin}
use Rattle.std.specs.Float.Ieee.{up, down}

-- "Kind 1: seconds to run D metres (1..20,000) at v km/h (1..200) .. Kind 2: metres run in T seconds (1..10,000) at v .. Tolerance: 0 to 10,000 thousandths."
abbrev pub in_range : ℕ → ℕ → ℕ → ℕ → Bool
in_range kind amount speed tolerance =
    (eqb kind 1 && leb amount 20000 || eqb kind 2 && leb amount 10000)
    && leb 1 amount
    && leb 1 speed
    && leb speed 200
    && leb tolerance 10000

-- the fraction top / bottom
pub record Fraction : Type 0 where
  pub top : ℕ
  pub bottom : ℕ

infix 25 ◌÷◌
abbrev pub ◌÷◌ : ℕ → ℕ → Fraction
p ÷ q = record { top = p; bottom = q }

-- "exact answer 18D/(5v)" for kind 1, "exact 5vT/18" for kind 2
abbrev pub exact_answer : ℕ → ℕ → ℕ → Fraction
exact_answer kind amount speed =
    if eqb kind 1 then 18 * amount ÷ (5 * speed)
    else 5 * speed * amount ÷ 18

-- "no number (NaN, infinite)"
abbrev pub is_number : Float → Bool
is_number nan = false
is_number (inf s) = false
is_number (fin s m e) = true

-- "the float's exact value": a fraction with a sign
pub record Value : Type 0 where
  pub minus : Bool
  pub over : ℕ
  pub under : ℕ

-- A number is exactly ±m * 2 ^ e, and 2 ^ e is up e / down e. Of what is no number nothing asks the value.
abbrev pub exact_value : Float → Value
exact_value nan = record { minus = false; over = 0; under = 1 }
exact_value (inf s) = record { minus = false; over = 0; under = 1 }
exact_value (fin s m e) = record { minus = s; over = m * up e; under = down e }

-- |a - b|: of a - b and b - a one is 0
abbrev pub apart : ℕ → ℕ → ℕ
apart a b = (a - b) + (b - a)

-- "the distance between the float's exact value and the exact answer" is distance / (bottom * under). "minus zero is zero": its over is 0.
abbrev pub distance : Fraction → Value → ℕ
distance t v =
    if v.minus then v.over * t.bottom + t.top * v.under
    else apart (v.over * t.bottom) (t.top * v.under)

-- "It is right exactly if the distance .. is at most the tolerance", which is in thousandths
abbrev pub right : Fraction → ℕ → Value → Bool
right t tolerance v = leb (1000 * distance t v) (tolerance * (t.bottom * v.under))

-- whether the answer is below the exact one, which is above zero: so it is with a minus
abbrev pub below : Fraction → Value → Bool
below t v = v.minus || ltb (v.over * t.bottom) (t.top * v.under)

abbrev pub signed : Bool → ℕ → ℤ
signed true n = neg_ℤ (pos n)
signed false n = pos n

-- "The signed error is (answer minus exact) in thousandths, cut toward zero, held to -1,000,000..1,000,000"
abbrev pub signed_error : Fraction → Value → ℤ
signed_error t v = signed (below t v) (min (1000 * distance t v / (t.bottom * v.under)) 1000000)
