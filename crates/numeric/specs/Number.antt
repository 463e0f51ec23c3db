-- The sheet line of a number: verdict and error by the exact answer. Definitions only.
use Rattle.std.specs.Prelude.{ℕ, not, leb, ℤ, pos, Float, if◌then◌else◌}
use Rattle.numeric.specs.Exact.{Fraction, is_number, exact_value, right, signed_error}
use Rattle.numeric.specs.Nearest.{model_value}

-- "Verdicts: 0 wrong, 1 right, .. 4 no number (NaN, infinite)": of a number typed in the unit asked
abbrev pub number_verdict : Fraction → ℕ → Float → ℕ
number_verdict t tolerance x =
    if not (is_number x) then 4
    else if right t tolerance (exact_value x) then 1
    else 0

-- "zero for verdicts 2 to 4"
abbrev pub error_at : ℕ → Fraction → Float → ℤ
error_at verdict t x = if leb verdict 1 then signed_error t (exact_value x) else pos 0

-- a sheet line
pub record Line : Type 0 where
  pub given : Float
  pub model : Float
  pub verdict : ℕ
  pub error : ℤ

-- "A sheet line holds the number as given, the model value as a float, the verdict, and the signed error"
abbrev pub line_at : ℕ → Fraction → Float → Line
line_at verdict t x = record { given = x; model = model_value t; verdict = verdict; error = error_at verdict t x }
