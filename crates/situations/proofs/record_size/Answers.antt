use mathlib.Core.Path.{sym, ◌∙◌}
use Rattle.records.specs.InBytes.{situation_size}
use Rattle.situations.proofs.record_size.Goals as goal

pub returns-then-both_zero : goal.returns-then-both_zero
unfolding situation_size
returns-then-both_zero c = rw (sym c.both_zero.ensures ∙ c.if-both_zero.true)

pub returns : goal.returns
unfolding situation_size
returns c = rw (sym c.both_zero.ensures ∙ c.if-both_zero.false)
