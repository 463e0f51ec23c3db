-- The loop's invariant: of the sections that are left the lowest is the lowest of all.
use Prim.Native.Nat.{◌-◌, ◌≤◌}
use mathlib.Core.Path.{◌≡◌}
use Rattle.rulebook.specs.Names.{lowest_from}
use Rattle.names.proofs.InTurn.{lowest_up_to}
use Rattle.names.proofs.lowest_occupied.Given as goal

abbrev pub invariant-loop-k : goal.invariant-loop-k
invariant-loop-k l = (1 ≤ l.k) × (lowest_from 1 l.n l.occupied ≡ lowest_up_to l.n l.k l.occupied)

abbrev pub decreases-loop-k : goal.decreases-loop-k
decreases-loop-k l = l.n - l.k
