use Rattle.records.specs.InBytes.{plan_size}
use Rattle.records.proofs.PlanForms.{plan_written_as}
use Rattle.questions.proofs.write.put_plan.Goals as goal

pub copy-requires : goal.copy-requires
unfolding plan_size
copy-requires c = rw c.if-p.true at c.requires

pub returns-then-p : goal.returns-then-p
unfolding plan_size
returns-then-p c = rw (plan_written_as c.args.p, c.if-p.true) (record { value = c.copy.ensures.count; room_after = c.copy.ensures.copied })

pub copy-requires-2 : goal.copy-requires-2
unfolding plan_size
copy-requires-2 c = rw c.if-p.false at c.requires

pub returns : goal.returns
unfolding plan_size
returns c = rw (plan_written_as c.args.p, c.if-p.false) (record { value = c.copy-2.ensures.count; room_after = c.copy-2.ensures.copied })
