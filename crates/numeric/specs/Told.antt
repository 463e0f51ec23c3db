-- What the code's types stand for, in the document's numbers. Definitions only.
use Rattle.std.specs.Prelude.{ℕ}
use Rattle.numeric.specs.Kinds.{kind_number}
use Rattle.numeric.specs.Exact.{Fraction, exact_answer}
use Rattle.numeric.specs.Number.{Line}
use Rattle.numeric.specs.declared.Line as code
use Rattle.numeric.specs.declared.Verdict.{Verdict}
use Rattle.numeric.specs.declared.Verdict.TheVariants.{Wrong, Right, Blank, OtherUnit, NoNumber}
use Rattle.numeric.specs.declared.question.Numbers.{Numbers}
use Rattle.numeric.specs.declared.question.Question.{Question}

-- "Verdicts: 0 wrong, 1 right, 2 blank, 3 other unit, 4 no number"
abbrev pub verdict_number : Verdict → ℕ
verdict_number Wrong = 0
verdict_number Right = 1
verdict_number Blank = 2
verdict_number OtherUnit = 3
verdict_number NoNumber = 4

abbrev pub line_told : code.Line → Line
line_told l = record { given = l.given; model = l.model; verdict = verdict_number l.verdict; error = l.error }

-- the numbers of a question in range
abbrev pub numbers_of : Question → Numbers
numbers_of q = record { kind = kind_number q.kind; amount = q.amount; speed = q.speed; tolerance = q.tolerance }

abbrev pub answer_to : Question → Fraction
answer_to q = exact_answer (kind_number q.kind) q.amount q.speed
