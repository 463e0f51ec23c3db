-- The loop's invariant: the run from the i-th place on, counted from 0, gives and names what the whole run does. The measure is what is left of the places.
use Prim.Native.Nat.{◌+◌, ◌-◌, ◌≤◌}
use mathlib.Core.Path.{◌≡◌}
use lib.ListN.{length, drop}
use Rattle.keylaws.specs.Run.{run_from, run}
use Rattle.situation.specs.Packed.{unpacked}
use Rattle.records.specs.InBytes.{events_in, readings_in}
use Rattle.rules.specs.RulesOf.{rules_of, name_told}
use Rattle.rules.proofs.run.run_places.Given as goal

abbrev pub invariant-loop-i : goal.invariant-loop-i
invariant-loop-i l = record {
  within : l.i ≤ length l.places;
  run_is : run_from (rules_of l.plan (events_in l.events) (readings_in l.readings)) (unpacked l.x) (l.i + 1) (drop l.i l.places) ≡ run (rules_of l.plan (events_in l.events) (readings_in l.readings)) (unpacked l.initial.x) l.places;
  name_is : name_told l.plan (events_in l.events) (unpacked l.x) (drop l.i l.places) ≡ name_told l.plan (events_in l.events) (unpacked l.initial.x) l.places;
}

abbrev pub decreases-loop-i : goal.decreases-loop-i
decreases-loop-i l = length l.places - l.i
