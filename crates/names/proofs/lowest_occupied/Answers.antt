-- The loop's invariant: of the sections that are left the lowest is the lowest of all.
use mathlib.Core.Path.{sym, ◌∙◌}
use native.Mathlib.Omega.{arith}
use Rattle.names.proofs.InTurn.{found, later, none_left, from_first}
use Rattle.names.proofs.lowest_occupied.Goals as goal

pub returns-then-has : goal.returns-then-has
returns-then-has c = sym (c.loop-k.invariant.1 ∙ found _ _ _ (omega arith) (sym c.has.ensures ∙ c.if-has.true))

pub loop-k-preserved : goal.loop-k-preserved
loop-k-preserved c = (omega arith, c.loop-k.invariant.1 ∙ later _ _ _ (omega arith) (sym c.has.ensures ∙ c.if-has.false))

pub returns : goal.returns
returns c = sym (c.loop-k.invariant.1 ∙ none_left _ _ _ (omega arith))

pub returns-else-has : goal.returns-else-has
returns-else-has c = sym (c.loop-k.invariant.1 ∙ later _ _ _ (omega arith) (sym c.has.ensures ∙ c.if-has.false) ∙ none_left _ _ _ (omega arith))

pub loop-k-init : goal.loop-k-init
loop-k-init c = (omega arith, sym (from_first _ _))

pub overflow_step-k : goal.overflow_step-k
overflow_step-k c = omega arith

pub loop-k-smaller : goal.loop-k-smaller
loop-k-smaller c = omega arith
