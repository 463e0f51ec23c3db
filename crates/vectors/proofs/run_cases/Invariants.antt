use Rattle.std.proofs.Common.{◌≤◌}
use Rattle.vectors.proofs.run_cases.Given as goal

abbrev pub invariant-loop-before : goal.invariant-loop-before
invariant-loop-before l = l.wrong ≤ l.before
