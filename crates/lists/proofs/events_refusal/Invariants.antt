-- The loop's invariant: what refuses the events that are left refuses them all.
use mathlib.Core.Path.{◌≡◌}
use Rattle.records.specs.InBytes.{events_in}
use Rattle.lists.specs.Refusal.{events_refusal}
use Rattle.lists.proofs.Chunks.{events_from}
use Rattle.lists.proofs.events_refusal.Given as goal

abbrev pub invariant-loop-code : goal.invariant-loop-code
invariant-loop-code l = events_refusal l.plan (events_from l.pairs l.code-index) ≡ events_refusal l.plan (events_in l.events)
