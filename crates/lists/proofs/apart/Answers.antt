use mathlib.Core.Path.{refl, sym, ap, ◌∙◌}
use lib.ListN.{replicate, length-set}
use Rattle.lists.proofs.Chunks.{all_events, events_left, no_events_left}
use Rattle.lists.proofs.EventsApart.{all_fresh, one_added, none_left, fresh_apart}
use Rattle.lists.proofs.apart.Goals as goal

pub loop-code-init : goal.loop-code-init
loop-code-init c = record { words = refl; left = ap (all_fresh (replicate 4 0)) (all_events _ _ c.as_chunks.ensures.front) }

pub loop-code-preserved : goal.loop-code-preserved
loop-code-preserved c =
    let before = c.loop-code.invariant in
    record {
      words = simp length-set before.words;
      left = rw c.with_section.ensures
          (one_added _ _ _ _ _ c.word_of-word.ensures.0 c.bit_of-bit.ensures.0 (rw c.from.ensures at (sym c.has.ensures ∙ c.if-has.false)))
          ∙ ap (all_fresh c.loop-code.seen) (sym (events_left _ _ c.loop-code-test.true)) ∙ before.left;
    }

pub returns : goal.returns
returns c =
    let before = c.loop-code.invariant in
    λ e. fresh_apart _ (replicate 4 0) refl (sym before.left ∙ ap (all_fresh c.loop-code.seen) (no_events_left _ _ c.loop-code-test.false) ∙ none_left _)
