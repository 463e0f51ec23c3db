use mathlib.Core.Path.{sym, ◌∙◌}
use native.Mathlib.Omega.{arith}
use Rattle.records.specs.Sizes.{fixed}
use Rattle.records.proofs.Fronts.{stands_long}
use Rattle.records.proofs.form.fixed.Goals as goal

pub overflow_add-result : goal.overflow_add-result
overflow_add-result c = omega (arith, stands_long _ _ _ (sym c.stands.ensures ∙ c.if-stands.true))

pub returns-then-stands : goal.returns-then-stands
unfolding fixed
returns-then-stands c = let t = sym c.stands.ensures ∙ c.if-stands.true in (rw t, omega arith, stands_long _ _ _ t)

pub returns : goal.returns
unfolding fixed
returns c = rw (sym c.stands.ensures ∙ c.if-stands.false)
