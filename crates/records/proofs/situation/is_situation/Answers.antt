use mathlib.Core.Path.{sym, ◌∙◌}
use Rattle.records.proofs.RecordLaws.{situation_law}
use Rattle.records.proofs.InBytes.{situation_long}
use Rattle.records.proofs.QuestionRead.{exactly}
use Rattle.records.proofs.situation.is_situation.Goals as goal

pub returns-clause-value : goal.returns-clause-value
returns-clause-value c = c.eq.ensures ∙ exactly situation_law _ _ c.take_situation.ensures

pub returns-clause-long : goal.returns-clause-long
returns-clause-long c t = situation_long _ (sym (c.eq.ensures ∙ exactly situation_law _ _ c.take_situation.ensures) ∙ t)
