-- The loop's invariant: of the events that are left one is listed twice exactly if one of all is.
use mathlib.Core.List.{map}
use mathlib.Core.Path.{◌≡◌}
use lib.ListN.{length}
use Rattle.records.specs.InBytes.{events_in}
use Rattle.lists.specs.Refusal.{listed_twice}
use Rattle.lists.proofs.Chunks.{one_event, ArePairs}
use Rattle.lists.proofs.compared.Given as goal

abbrev pub invariant-loop-event : goal.invariant-loop-event
invariant-loop-event l = record {
  pairs : ArePairs l.left;
  twice : listed_twice (map one_event l.left) ≡ listed_twice (events_in l.events);
}

abbrev pub decreases-loop-event : goal.decreases-loop-event
decreases-loop-event l = length l.left
