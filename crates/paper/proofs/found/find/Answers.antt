use mathlib.Core.Path.{refl}
use native.Mathlib.Omega.{arith}
use Rattle.block.proofs.Told.{not_accepted}
use Rattle.records.proofs.Lies.{lies}
use Rattle.paper.proofs.FoundThere.{lost, events_whole, readings_whole, at_most_12, counted, by_judged, by_lists, all_found, accepted}
use borrow.Author.Rules.{rules}
use Rattle.paper.proofs.found.find.Goals as goal

pub returns-in_default : goal.returns-in_default
returns-in_default c = lost _ c.in_default.ensures

pub plan_in-plan-requires : goal.plan_in-plan-requires
plan_in-plan-requires c = (lies _ _ c.in-Some.ensures).plan_long

pub situation_in-situation-requires : goal.situation_in-situation-requires
situation_in-situation-requires c = (lies _ _ c.in-Some.ensures).situation_long

pub returns-in_err-judged : goal.returns-in_err-judged
returns-in_err-judged c =
    let first = by_judged _ _ (lies _ _ c.in-Some.ensures) _ _ c.plan_in-plan.ensures c.situation_in-situation.ensures c.in_err-judged.ensures (not_accepted _) in
    search rules

pub returns-in_err-lists_refusal : goal.returns-in_err-lists_refusal
returns-in_err-lists_refusal c =
    let first = by_lists _ _ (lies _ _ c.in-Some.ensures) _ _ c.plan_in-plan.ensures c.situation_in-situation.ensures c.in_ok-judged.ensures c.in_err-lists_refusal.ensures (not_accepted _) in
    search rules

pub overflow_cast-result : goal.overflow_cast-result
overflow_cast-result c = let i = lies _ _ c.in-Some.ensures in omega (arith, counted _ _ i, at_most_12 _ _ i)

pub invariant_of-result : goal.invariant_of-result
invariant_of-result c =
    let i = lies _ _ c.in-Some.ensures in
    record {
      accepted = accepted _ _ i _ _ c.plan_in-plan.ensures c.situation_in-situation.ensures c.in_ok-judged.ensures c.in_ok-lists_refusal.ensures refl;
      counted = counted _ _ i;
      events_whole = events_whole _ _ i;
      readings_whole = readings_whole _ _ i;
    }

pub returns : goal.returns
returns c =
    all_found _ _ (lies _ _ c.in-Some.ensures) _ _ c.plan_in-plan.ensures c.situation_in-situation.ensures c.in_ok-judged.ensures c.in_ok-lists_refusal.ensures refl
