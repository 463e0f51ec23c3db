use mathlib.Core.Path.{sym, ◌∙◌}
use Rattle.paper.proofs.GivenThere.{no_plan, no_situation, both_there}
use Rattle.paper.proofs.given.both_given.Goals as goal
use Rattle.paper.proofs.given.both_given.Goals.{else-is_plan-via-then-is_plan+else-is_situation, else-is_plan-via-else-is_plan}

pub returns-then-is_situation : goal.returns-then-is_situation
returns-then-is_situation c =
    both_there _ _ c.plan_in.ensures c.situation_in.ensures (sym c.is_plan.ensures.value ∙ c.if-is_plan.true) (sym c.is_situation.ensures.value ∙ c.if-is_situation.true)

pub returns : goal.returns
returns c = elim c.else-is_plan.branch [
  | else-is_plan-via-then-is_plan+else-is_situation w ↦ no_situation _ _ (sym w.is_situation.ensures.value ∙ w.if-is_situation.false)
  | else-is_plan-via-else-is_plan w ↦ no_plan _ _ (sym c.is_plan.ensures.value ∙ w.if-is_plan.false)
]
