use mathlib.Core.Path.{ap, ◌∙◌}
use Rattle.paper.specs.Read.{Read, refused}
use Rattle.folvkin.proofs.question_calls.folvkin_question.Goals as goal

pub returns-in-Err : goal.returns-in-Err
unfolding refused
returns-in-Err c = c.into.ensures ∙ ap (λ (r : Read). r.refusal) c.in-Err.ensures
