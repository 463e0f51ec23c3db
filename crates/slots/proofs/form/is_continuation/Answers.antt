use mathlib.Core.Path.{refl}
use Rattle.std.proofs.lemmas.List.{take_rest}
use borrow.Author.Tests.{eq-eqb, ne_eqb}
use Rattle.keylaws.specs.Slots.{is_slot}
use Rattle.keylaws.specs.Continuation.{is_continuation, is_from_start}
use Rattle.keylaws.proofs.SlotTestSteps.{continuation_test}
use Rattle.slots.proofs.form.is_continuation.Goals as goal

pub returns-then-x-ne-SLOT : goal.returns-then-x-ne-SLOT
unfolding is_continuation is_from_start is_slot
returns-then-x-ne-SLOT c = rw (ne_eqb _ _ c.if-x-ne-SLOT.true) refl

pub returns-then-x : goal.returns-then-x
returns-then-x c = rw (continuation_test _ _ _ c.requires c.if-x-ne-SLOT.false, eq-eqb _ _ c.if-x.true) (rw take_rest at c.is_filled.ensures)

pub returns : goal.returns
unfolding is_continuation is_from_start
returns c = rw (eq-eqb _ _ c.if-x-ne-SLOT.false, ne_eqb _ _ c.if-x.false) c.is_slot.ensures
