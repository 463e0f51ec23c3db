-- A room that is too short, or the text at its front.
use Rattle.std.proofs.Common.{rules, arith}
use Rattle.keytext.specs.Text.{labelled}
use Rattle.keytext.proofs.RoomLaws.{too_short, long_enough}
use Rattle.keytext.proofs.write_labelled.Goals as goal

pub returns-then-room-longest : goal.returns-then-room-longest
returns-then-room-longest c =
    let short = too_short c.args.longest (labelled c.args.label.now c.args.n) c.args.room.now c.if-room-longest.true in
    record { fits = search rules; told = short.0; room = short.1.0; within = search rules }

pub returns : goal.returns
returns c =
    let p = c.put_labelled in
    let long = long_enough c.args.longest _ (labelled c.args.label.now c.args.n) _ c.args.room.now c.if-room-longest.false (omega arith) p.ensures.end p.ensures.room in
    record { fits = search rules; told = long.0; room = long.1.0; within = long.1.1 }
