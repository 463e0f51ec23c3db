use mathlib.Core.Path.{refl, ◌∙◌}
use Rattle.folvkin.proofs.block_calls.folvkin_situation.Goals as goal

pub returns-in_default : goal.returns-in_default
returns-in_default c = rw (← c.in_default.ensures) refl

pub returns : goal.returns
returns c = rw (← c.in-Some.ensures) (c.told.ensures ∙ c.judged.ensures)
