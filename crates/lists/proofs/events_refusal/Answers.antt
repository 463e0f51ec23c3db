use mathlib.Core.Path.{refl, sym, ap, ◌∙◌}
use borrow.Author.Rules.{rules}
use Rattle.block.proofs.Told.{not_accepted}
use Rattle.lists.specs.Refusal.{events_refusal}
use Rattle.lists.proofs.Chunks.{all_events, events_left, no_events_left, refused_at_first, refused_after, none_refused}
use Rattle.lists.proofs.events_refusal.Goals as goal

pub loop-code-init : goal.loop-code-init
loop-code-init c = ap (events_refusal c.args.plan) (all_events _ _ c.as_chunks.ensures.front)

pub returns-in_err-event_refusal : goal.returns-in_err-event_refusal
returns-in_err-event_refusal c =
    let p = c.args.plan in
    let first = sym c.loop-code.invariant ∙ ap (events_refusal p) (events_left _ _ c.loop-code-test.true) ∙ refused_at_first p _ _ c.in_err-event_refusal.ensures (not_accepted _) in
    search rules

pub loop-code-preserved : goal.loop-code-preserved
loop-code-preserved c =
    let p = c.args.plan in
    sym (ap (events_refusal p) (events_left _ _ c.loop-code-test.true) ∙ refused_after p _ _ c.in_ok-event_refusal.ensures refl) ∙ c.loop-code.invariant

pub returns : goal.returns
returns c =
    let p = c.args.plan in
    sym (sym c.loop-code.invariant ∙ ap (events_refusal p) (no_events_left _ _ c.loop-code-test.false) ∙ none_refused p)
