-- The loop's invariant: the room is the entry's with the first i aspects written, and the sets have moved down by i. Assumes nothing.
use Prim.Native.Nat.{◌/◌, ◌^◌}
use mathlib.Core.Path.{◌≡◌}
use lib.ListN.{length}
use Rattle.folvkin.proofs.AspectsWritten.{written}
use Rattle.folvkin.proofs.block_calls.show_direction.Given as goal

abbrev pub invariant-loop-i : goal.invariant-loop-i
invariant-loop-i l = record {
  length : length l.room ≡ length l.initial.room;
  written : l.room ≡ written l.initial.rest l.initial.room l.i;
  opened : l.rest.«open» ≡ l.initial.rest.«open» / 2 ^ l.i;
  green : l.rest.green ≡ l.initial.rest.green / 2 ^ l.i;
}
