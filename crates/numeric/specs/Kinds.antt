-- The kinds of questions, by the document's numbers. Definitions only.
use Rattle.std.specs.Prelude.{ℕ}
use Rattle.numeric.specs.declared.question.Kind.{Kind}
use Rattle.numeric.specs.declared.question.Kind.TheVariants.{Seconds, Metres}

-- "Kind 1: seconds to run D metres .. Kind 2: metres run in T seconds"
abbrev pub kind_number : Kind → ℕ
kind_number Seconds = 1
kind_number Metres = 2
