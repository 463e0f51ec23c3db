-- The answer of marking a question in range. Assumes nothing.
use Rattle.std.specs.Prelude.{if◌then◌else◌}
use mathlib.Core.Path.{◌≡◌, ap}
use Prim.Native.Nat.{ℕ}
use mathlib.Core.Bool.{Bool, true, false}
use lib.Dec.{T}
use Rattle.numeric.specs.Exact.{in_range, exact_answer}
use Rattle.marking.specs.Sheet.{sheet_line, refused, marked, Marked}
use Rattle.marking.specs.declared.Answer.{Answer}
use Rattle.numeric.specs.Number.{Line}

-- an answer of marking: the refusal, and the line beside it
abbrev pub with_line : ℕ → Line → Marked
with_line n l = record { refusal = n; line = l }

-- by whether the question is in range
pub marked_by : (kind amount speed tolerance : ℕ) (a : Answer) (b : Bool) → in_range kind amount speed tolerance ≡ b
    → marked kind amount speed tolerance a ≡ (if b then with_line 0 (sheet_line kind (exact_answer kind amount speed) tolerance a) else refused 23)
unfolding marked
marked_by kind amount speed tolerance a b e = ap (λ (x : Bool). if x then with_line 0 (sheet_line kind (exact_answer kind amount speed) tolerance a) else refused 23) e

pub marked_line : (kind amount speed tolerance : ℕ) (a : Answer) → T (in_range kind amount speed tolerance)
    → marked kind amount speed tolerance a ≡ with_line 0 (sheet_line kind (exact_answer kind amount speed) tolerance a)
marked_line kind amount speed tolerance a r = marked_by kind amount speed tolerance a true (is_true (in_range kind amount speed tolerance) r)
  where
    is_true : (b : Bool) → T b → b ≡ true
    is_true true t = mathlib.Core.Path.refl
    is_true false t = absurd t
