-- In the cycle the remaining length falls. The loop's invariant: what the events from here on put into the room gives what all of them give.
use Rattle.std.proofs.Common.{◌≡◌, ◌+◌, ◌*◌, ◌≤◌, length}
use Rattle.situation.specs.Packed.{unpacked}
use Rattle.engine.specs.Walked.{attempted_from, attempted}
use Rattle.engine.proofs.ask.Ask.+attempt_explore.Given as goal

abbrev pub decreases-attempt : goal.decreases-attempt
decreases-attempt l = 2 * l.at.left

abbrev pub decreases-explore : goal.decreases-explore
decreases-explore l = 2 * l.at.left + 1

abbrev pub invariant-attempt-loop-place : goal.invariant-attempt-loop-place
invariant-attempt-loop-place l = record {
  fits : 6 * l.count ≤ length l.room;
  written : attempted_from l.self (unpacked l.x) (record l.at { count = l.count }) l.room l.on l.place ≡ attempted l.self (unpacked l.x) l.at l.initial.room;
}
