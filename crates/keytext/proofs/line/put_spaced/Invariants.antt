-- The loop's invariant: the first places are written.
use Rattle.std.proofs.Common.{◌≡◌, ◌+◌, length, take}
use Rattle.keytext.specs.Text.{spaced}
use Rattle.keytext.specs.Room.{over}
use Rattle.keytext.proofs.line.put_spaced.Given as goal

abbrev pub invariant-loop-place : goal.invariant-loop-place
invariant-loop-place l =
    let so_far = spaced (take l.place-index l.word) in
    (l.end ≡ l.at + length so_far) × (l.room ≡ over l.at so_far l.initial.room)
