use mathlib.Core.Path.{sym, ◌∙◌}
use Rattle.folvkin.proofs.PlanTold.{no_plan_told, a_plan_told}
use Rattle.folvkin.proofs.block_calls.folvkin_plan.Goals as goal

pub returns-then-not-is_plan : goal.returns-then-not-is_plan
returns-then-not-is_plan c = no_plan_told _ (sym c.is_plan.ensures.value ∙ c.if-not-is_plan.true)

pub returns : goal.returns
returns c = c.told.ensures ∙ c.plan_judged.ensures ∙ a_plan_told _ (sym c.is_plan.ensures.value ∙ c.if-not-is_plan.false) c.plan_in.ensures
