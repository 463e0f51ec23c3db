-- The loop's invariant: the events that are left have bits of their own, and none of those before, exactly if all have bits of their own.
use mathlib.Core.Path.{◌≡◌}
use lib.ListN.{length, replicate}
use Rattle.records.specs.InBytes.{events_in}
use Rattle.lists.proofs.Chunks.{events_from}
use Rattle.lists.proofs.EventsApart.{all_fresh}
use Rattle.lists.proofs.apart.Given as goal

abbrev pub invariant-loop-code : goal.invariant-loop-code
invariant-loop-code l = record {
  words : length l.seen ≡ 4;
  left : all_fresh l.seen (events_from l.pairs l.code-index) ≡ all_fresh (replicate 4 0) (events_in l.events);
}
