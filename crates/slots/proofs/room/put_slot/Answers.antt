use Rattle.std.proofs.Common.{arith}
use Rattle.keylaws.proofs.SheetSteps.{put_fits, put_none}
use Rattle.slots.proofs.room.put_slot.Goals as goal

pub returns-then-room-start-lt-SLOT-clause-put : goal.returns-then-room-start-lt-SLOT-clause-put
returns-then-room-start-lt-SLOT-clause-put c = put_none c.args.room.now c.args.count c.args.slot (omega arith)

pub returns-clause-put : goal.returns-clause-put
returns-clause-put c = put_fits c.args.room.now c.args.count c.args.slot c.write_slot.new.part (omega arith) c.write_slot.ensures
