-- The loop's invariant: the aspects in what is left of the readings hold exactly if all do.
use mathlib.Core.Path.{◌≡◌}
use Rattle.std.specs.Slice.Iter.{chunks_exact_rest, chunks_exact_size}
use Rattle.situation.specs.Packed.{unpacked}
use Rattle.records.specs.InBytes.{readings_in}
use Rattle.rules.specs.Wanted.{aspects_hold}
use Rattle.rules.proofs.wanted.aspects_hold.Given as goal

abbrev pub invariant-loop-reading : goal.invariant-loop-reading
invariant-loop-reading l = record {
  size : chunks_exact_size l.reading-iterator ≡ 3;
  left : aspects_hold l.plan (readings_in (chunks_exact_rest l.reading-iterator)) (unpacked l.x) ≡ aspects_hold l.plan (readings_in l.readings) (unpacked l.x);
}
