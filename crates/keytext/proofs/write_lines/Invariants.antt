-- The loop's invariant: the lines of the first slots are written, each no longer than the longest.
use Rattle.std.proofs.Common.{◌≡◌, ◌≤◌, ◌*◌, length, take, map}
use Rattle.keylaws.specs.Slots.{word_of}
use Rattle.keytext.specs.Text.{lines}
use Rattle.keytext.specs.Room.{over}
use Rattle.keytext.proofs.write_lines.Given as goal

abbrev pub invariant-loop-slot : goal.invariant-loop-slot
invariant-loop-slot l =
    let so_far = lines (map word_of (take l.slot-index l.whole)) in
    (l.end ≡ length so_far) × (l.room ≡ over 0 so_far l.initial.room) × (l.end ≤ 20 * l.slot-index)
