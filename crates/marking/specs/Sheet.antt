-- Answers, verdicts and the sheet line. Definitions only.
use Rattle.std.specs.Prelude.{ℕ, false, not, eqb, pos, Float, if◌then◌else◌}
use Rattle.std.specs.Float.{fin}
use Rattle.numeric.specs.Exact.{Fraction, in_range, exact_answer}
use Rattle.numeric.specs.Number.{Line, number_verdict, line_at}
use Rattle.marking.specs.declared.Answer.{Answer}
use Rattle.marking.specs.declared.Answer.TheVariants.{Blank, Seconds, Metres}

-- "An answer is blank, seconds with a float, or metres with a float (unit byte 0, 1, 2)."
abbrev pub unit_of : Answer → ℕ
unit_of Blank = 0
unit_of (Seconds x) = 1
unit_of (Metres x) = 2

abbrev pub plus_zero : Float
plus_zero = fin false 0 (pos 0)

-- "the number is given as typed (blank: +0)"
abbrev pub given_of : Answer → Float
given_of Blank = plus_zero
given_of (Seconds x) = x
given_of (Metres x) = x

-- kind 1 asks seconds, kind 2 metres
abbrev pub unit_asked : ℕ → ℕ
unit_asked kind = if eqb kind 1 then 1 else 2

-- "2 blank, 3 other unit, ..; unit is judged before 4"
abbrev pub verdict_of : ℕ → Fraction → ℕ → Answer → ℕ
verdict_of kind t tolerance a =
    if eqb (unit_of a) 0 then 2
    else if not (eqb (unit_of a) (unit_asked kind)) then 3
    else number_verdict t tolerance (given_of a)

abbrev pub sheet_line : ℕ → Fraction → ℕ → Answer → Line
sheet_line kind t tolerance a = line_at (verdict_of kind t tolerance a) t (given_of a)

-- what marking returns: a refusal and zeros, or 0 and the line
pub record Marked : Type 0 where
  pub refusal : ℕ
  pub line : Line

-- "Every refusal returns its number and zeros"
abbrev pub refused : ℕ → Marked
refused n = record { refusal = n; line = record { given = plus_zero; model = plus_zero; verdict = 0; error = pos 0 } }

-- "0 is accepted .. 23 numeric question or unit byte out of range"
unfoldable pub marked : ℕ → ℕ → ℕ → ℕ → Answer → Marked
marked kind amount speed tolerance a =
    if in_range kind amount speed tolerance
    then (record { refusal = 0; line = sheet_line kind (exact_answer kind amount speed) tolerance a })
    else refused 23
