use Rattle.records.specs.InBytes.{plan_size}
use Rattle.records.proofs.plan.plan_size.Goals as goal

pub returns-then-p : goal.returns-then-p
unfolding plan_size
returns-then-p c = rw c.if-p.true

pub returns : goal.returns
unfolding plan_size
returns c = rw c.if-p.false
