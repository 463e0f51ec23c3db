use mathlib.Core.Path.{sym, ap, ◌∙◌}
use Rattle.lists.specs.Refusal.{listed_twice}
use Rattle.lists.proofs.Chunks.{all_events, chunks_are_pairs, twice_step, none_twice}
use Rattle.lists.proofs.compared.Goals as goal

pub loop-event-init : goal.loop-event-init
loop-event-init c = record { pairs = rw c.as_chunks.ensures.front (chunks_are_pairs c.args.events.now); twice = ap listed_twice (all_events _ _ c.as_chunks.ensures.front) }

pub returns-then-contains : goal.returns-then-contains
returns-then-contains c =
    let before = c.loop-event.invariant in
    let cut = c.in-Some.ensures.cases.0 in
    sym (sym before.twice ∙ rw cut (twice_step _ _ (rw cut at before.pairs) ∙ rw (sym c.contains.ensures.value ∙ c.if-contains.true)))

pub loop-event-preserved : goal.loop-event-preserved
loop-event-preserved c =
    let before = c.loop-event.invariant in
    let cut = c.in-Some.ensures.cases.0 in
    let pairs = rw cut at before.pairs in
    record {
      pairs = pairs.1;
      twice = sym (sym before.twice ∙ rw cut (twice_step _ _ pairs ∙ rw (sym c.contains.ensures.value ∙ c.if-contains.false)));
    }

pub returns : goal.returns
returns c = sym (sym c.loop-event.invariant.twice ∙ none_twice _ c.in_default.ensures.cases)
