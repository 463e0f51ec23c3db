use Rattle.std.proofs.Common.{arith, rules, ◌≡◌, length}
use Rattle.std.proofs.lemmas.Bool.{not-true, not-false}
use Rattle.keylaws.specs.Sheet.{grow}
use Rattle.slots.proofs.Grown.{put_then_grown, place_fits, put_no_other}
use Rattle.slots.proofs.room.put_grown.Goals as goal

pub grow-requires : goal.grow-requires
grow-requires c =
    let a = c.args in
    let p = c.put_slot-part in
    (place_fits a.room.now p.new.room a.slot a.count _ _ (not-true _ c.if-not-part.true) p.ensures.put p.auto.room, omega arith, omega arith)

pub returns-then-not-part-clause-put : goal.returns-then-not-part-clause-put
returns-then-not-part-clause-put c =
    let a = c.args in
    let p = c.put_slot-part in
    let six : length a.slot ≡ 6 = search rules in
    put_then_grown a.room.now p.new.room a.slot c.grow.new.slot a.count _ a.depth a.place _ (not-true _ c.if-not-part.true) p.ensures.put six (omega arith) c.grow.ensures

pub returns-else-not-part-clause-put : goal.returns-else-not-part-clause-put
returns-else-not-part-clause-put c =
    let a = c.args in
    let p = c.put_slot-part in
    put_no_other a.room.now p.new.room a.slot (grow a.slot a.depth a.place) a.count _ _ (not-false _ c.if-not-part.false) p.ensures.put
