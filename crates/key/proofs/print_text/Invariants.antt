-- The loop's invariant: the bytes counted and those of the text that is left are those of the whole text. The measure is what is left.
use Rattle.std.proofs.Common.{◌≡◌, ◌+◌, length}
use Rattle.printing.specs.Printed.{printed as text}
use Rattle.printing.specs.Pieces.{progress_of, rest}
use Rattle.key.proofs.print_text.Given as goal

abbrev pub invariant-loop-rt : goal.invariant-loop-rt
invariant-loop-rt l = (length l.room ≡ length l.initial.room) × (l.printed + length (rest l.question (progress_of l.progress)) ≡ length (text l.question))

abbrev pub decreases-loop-rt : goal.decreases-loop-rt
decreases-loop-rt l = length (rest l.question (progress_of l.progress))
