use mathlib.Core.Bool.{false}
use mathlib.Core.Path.{◌≡◌, refl}
use Rattle.std.proofs.lemmas.List.{take_rest}
use lib.Dec.{leb}
use lib.ListN.{get_or}
use borrow.Author.Tests.{eq-eqb, ne_eqb, lt-leb, le-leb}
use Rattle.keylaws.specs.Slots.{is_slot}
use Rattle.slots.proofs.form.is_slot.Goals as goal

pub returns-then-x-ne-SLOT : goal.returns-then-x-ne-SLOT
unfolding is_slot
returns-then-x-ne-SLOT c = rw (ne_eqb _ _ c.if-x-ne-SLOT.true) refl

pub returns-then-limit-count : goal.returns-then-limit-count
unfolding is_slot
returns-then-limit-count c =
    let over : leb (get_or c.args.x.now 0 0) c.args.limit ≡ false = lt-leb _ _ c.if-limit-count.true in
    rw (eq-eqb _ _ c.if-x-ne-SLOT.false, over) refl

pub returns : goal.returns
unfolding is_slot
returns c = rw (eq-eqb _ _ c.if-x-ne-SLOT.false, le-leb _ _ c.if-limit-count.false) (rw take_rest at c.is_filled.ensures)
