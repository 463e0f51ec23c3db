-- The loop's invariant: what is left of the readings, put to what is asked so far, gives what all of them ask; so many have been taken.
use Prim.Native.Nat.{◌+◌, ◌*◌}
use mathlib.Core.Path.{◌≡◌}
use lib.ListN.{length}
use Rattle.std.specs.Slice.Iter.{chunks_exact_rest, chunks_exact_size}
use Rattle.std.specs.Iterator.Adapters.{enumerate_source, enumerate_count}
use Rattle.rules.specs.Wanted.{with_readings, wanted_of}
use Rattle.rules.proofs.wanted.wanted_of.Given as goal

abbrev pub invariant-loop-i : goal.invariant-loop-i
invariant-loop-i l = record {
  size : chunks_exact_size (enumerate_source l.i-iterator) ≡ 3;
  taken : 3 * enumerate_count l.i-iterator + length (chunks_exact_rest (enumerate_source l.i-iterator)) ≡ length l.readings;
  left : with_readings l.w (chunks_exact_rest (enumerate_source l.i-iterator)) ≡ wanted_of l.readings;
}
