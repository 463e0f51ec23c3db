-- What the code returns, as the document has it: an error stands for its number and zeros. Definitions only.
use Rattle.std.specs.Prelude.{ℕ, Result, Ok, Err}
use Rattle.numeric.specs.Told.{line_told}
use Rattle.numeric.specs.declared.Line as code
use Rattle.marking.specs.declared.Refusal.{Refusal}
use Rattle.marking.specs.declared.Refusal.TheVariants.{OutOfRange, ShortRoom}
use Rattle.marking.specs.Sheet.{Marked, refused}

-- "23 numeric question or unit byte out of range"; 24, room under 13 bytes
abbrev pub number_of : Refusal → ℕ
number_of OutOfRange = 23
number_of ShortRoom = 24

-- "0 is accepted"
abbrev pub marked_as : Result code.Line Refusal → Marked
marked_as (Ok line) = record { refusal = 0; line = line_told line }
marked_as (Err r) = refused (number_of r)

-- the number beside which nothing is returned
abbrev pub refusal_of : {A : Type 0} → Result A Refusal → ℕ
refusal_of (Ok x) = 0
refusal_of (Err r) = number_of r
