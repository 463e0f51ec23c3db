-- The measure is what is left of the text: each piece has some of it.
use Prim.Native.Nat.{◌≤◌}
use mathlib.Core.Path.{◌≡◌}
use lib.ListN.{length}
use Rattle.printing.specs.Pieces.{progress_of, rest}
use Rattle.vectors.proofs.text.write_text.Given as goal

abbrev pub invariant-loop-progress : goal.invariant-loop-progress
invariant-loop-progress l = (l.at ≤ length l.room) × (47 ≤ l.size) × (length l.room ≡ length l.initial.room)

abbrev pub decreases-loop-progress : goal.decreases-loop-progress
decreases-loop-progress l = length (rest l.question (progress_of l.progress))
