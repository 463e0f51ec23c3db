-- "The model value is the float nearest to the exact answer, within one 2^24th part of it": on the sheet line of every question in range. Assumes nothing.
use mathlib.Core.Path.{sym, subst}
use Prim.Native.Nat.{ℕ}
use native.Mathlib.Nat.{le_trans}
use native.Mathlib.Omega.{arith}
use lib.Dec.{T}
use Rattle.numeric.specs.Exact.{in_range, exact_answer}
use Rattle.numeric.specs.Nearest.{Nearest}
use Rattle.marking.specs.Sheet.{marked, Marked}
use Rattle.marking.specs.declared.Answer.{Answer}
use Rattle.numeric.proofs.Ranges.{low, under_24}
use Rattle.marking.proofs.Lines.{marked_line}
use Rattle.numeric.proofs.Rounding.{is_nearest}

pub model_is_nearest : (kind amount speed tolerance : ℕ) (a : Answer) → T (in_range kind amount speed tolerance) → Nearest (exact_answer kind amount speed) (marked kind amount speed tolerance a).line.model
model_is_nearest kind amount speed tolerance a r =
    let s = (low kind amount speed tolerance r).0 in
    let t = exact_answer kind amount speed in
    subst (λ (m : Marked). Nearest t m.line.model) (sym (marked_line kind amount speed tolerance a r))
    (is_nearest t s.above (under_24 t.top s.top) s.bottom (under_24 t.bottom (le_trans s.small (omega arith))))
