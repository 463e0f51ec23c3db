use mathlib.Core.Path.{refl}
use Rattle.paper.specs.Refusal.{counts_in_range}
use Rattle.questions.proofs.judge.counts_in_range.Goals as goal

pub returns : goal.returns
unfolding counts_in_range
returns c = refl
