use mathlib.Core.Path.{sym, ◌∙◌}
use Rattle.records.proofs.RecordLaws.{plan_law}
use Rattle.records.proofs.InBytes.{plan_long}
use Rattle.records.proofs.QuestionRead.{exactly}
use Rattle.records.proofs.plan.is_plan.Goals as goal

pub returns-clause-value : goal.returns-clause-value
returns-clause-value c = c.eq.ensures ∙ exactly plan_law _ _ c.take_plan.ensures

pub returns-clause-long : goal.returns-clause-long
returns-clause-long c t = plan_long _ (sym (c.eq.ensures ∙ exactly plan_law _ _ c.take_plan.ensures) ∙ t)
