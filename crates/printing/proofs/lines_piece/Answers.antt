-- The room has the longest lines, so they are written.
use Rattle.std.proofs.Common.{◌∙◌}
use Rattle.keytext.specs.Text.{lines, words, longest_lines}
use Rattle.keytext.proofs.RoomLaws.{is_written}
use Rattle.printing.proofs.lines_piece.Goals as goal

pub returns-clause-told : goal.returns-clause-told
returns-clause-told c = let slots = c.args.slots.now in (rw c.unwrap-length.ensures at c.write_lines.ensures.told) ∙ (is_written (longest_lines slots) (lines (words slots)) c.args.room.now c.requires.1).0

pub returns-clause-room : goal.returns-clause-room
returns-clause-room c = let slots = c.args.slots.now in c.write_lines.ensures.room ∙ (is_written (longest_lines slots) (lines (words slots)) c.args.room.now c.requires.1).1
