-- A reader need not believe this file: what the functions below the calls of marking say of their results. The promises of the calls do not cite it.
use Rattle.std.specs.Prelude.{ℕ, ◌+◌, ◌-◌, ◌*◌, ◌/◌, ◌%◌, ◌^◌, ◌≤◌, ◌<◌, min, Bool, ◌↔◌, leb, ltb, eqb, if◌then◌else◌}
use Rattle.numeric.specs.Exact.{Fraction, Value}
use Rattle.numeric.specs.declared.parts.Parts.{Parts}

-- how large the exact answer of a question in range may be
pub record Small (t : Fraction) : Type 0 where
  pub above : 0 < t.top
  pub top : t.top ≤ 10000000
  pub bottom : 0 < t.bottom
  pub small : t.bottom ≤ 1000

-- a / c cut down to a whole number, at most 2 ^ 44, and cut up
abbrev pub cut_down : ℕ → ℕ → ℕ
cut_down a c = min (a / c) (2 ^ 44)

abbrev pub cut_up : ℕ → ℕ → ℕ
cut_up a c = cut_down a c + (if eqb (a % c) 0 then 0 else 1)

-- below cap, low and high are a / c cut down and cut up
pub record Cuts (cap a c low high : ℕ) : Type 0 where
  pub at_least : (k : ℕ) → k ≤ cap → (k ≤ low) ↔ (k * c ≤ a)
  pub at_most : (k : ℕ) → k < cap → (high ≤ k) ↔ (a ≤ k * c)

-- the number ±digits * 2 ^ power / 2 ^ 149
abbrev pub value_of : Parts → Value
value_of d = record { minus = d.negative; over = d.digits * 2 ^ d.power; under = 2 ^ 149 }

-- a pattern's sign, digits and power of two: the number is ±digits * 2 ^ power / 2 ^ 149
abbrev pub negative_of : ℕ → Bool
negative_of b = leb 2147483648 b

abbrev pub digits_of : ℕ → ℕ
digits_of b = if ltb (b % 2147483648) 8388608 then b % 8388608 else 8388608 + b % 8388608

abbrev pub power_of : ℕ → ℕ
power_of b = b % 2147483648 / 8388608 - 1
