use Rattle.std.proofs.Common.{arith, refl}
use Rattle.slots.proofs.Filled.{filled_split, filled_short}
use Rattle.slots.proofs.form.is_filled.Goals as goal

pub returns-then-are_places : goal.returns-then-are_places
returns-then-are_places c =
    rw (filled_split c.args.n c.args.count c.args.bytes.now c.from.ensures c.in-Some.ensures.cases, ← c.are_places.ensures, c.if-are_places.true) c.are_zero.ensures

pub returns-else-are_places : goal.returns-else-are_places
returns-else-are_places c =
    rw (filled_split c.args.n c.args.count c.args.bytes.now c.from.ensures c.in-Some.ensures.cases, ← c.are_places.ensures, c.if-are_places.false) refl

pub returns-in-None : goal.returns-in-None
returns-in-None c = rw (filled_short c.args.n c.args.count c.args.bytes.now (omega (arith, c.in-None.ensures.cases))) refl
