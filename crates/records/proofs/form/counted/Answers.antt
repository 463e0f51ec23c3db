use mathlib.Core.Path.{sym, ◌∙◌}
use native.Mathlib.Omega.{arith}
use Rattle.records.specs.Sizes.{counted}
use Rattle.records.proofs.Fronts.{stands_long, list_stands}
use Rattle.records.proofs.form.counted.Goals as goal

pub returns-then-not-stands : goal.returns-then-not-stands
unfolding counted
returns-then-not-stands c = rw (sym c.stands.ensures ∙ c.if-not-stands.true)

pub bounds-s-2 : goal.bounds-s-2
bounds-s-2 c = omega (arith, stands_long _ 1 _ (sym c.stands.ensures ∙ c.if-not-stands.false))

pub returns-then-least-count : goal.returns-then-least-count
returns-then-least-count c =
    let h = list_stands _ _ _ _ _ _ c.from.ensures (sym c.stands.ensures ∙ c.if-not-stands.false) c.if-least-count.true in
    (h.0, omega arith, h.1)

pub returns : goal.returns
unfolding counted
returns c = rw (sym c.stands.ensures ∙ c.if-not-stands.false, rw c.from.ensures at c.if-least-count.false)
