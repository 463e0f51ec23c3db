-- The loop's invariant: the room is the entry's with the first i aspects written, and the sets have moved down by i. Assumes nothing.
use Prim.Native.Nat.{◌+◌, ◌/◌, ◌^◌, ◌<◌}
use mathlib.Core.Path.{◌≡◌, refl, ◌∙◌}
use lib.ListN.{length}
use borrow.Author.Rules.{rules}
use Rattle.signals.specs.SignalSets.{shown}
use Rattle.folvkin.proofs.AspectsWritten.{none_written, one_written, moved, bottom_shown, not_moved}
use Rattle.folvkin.proofs.block_calls.show_direction.Goals as goal

pub loop-i-init : goal.loop-i-init
loop-i-init c = record { length = refl; written = none_written _ _; opened = not_moved _; green = not_moved _ }

pub loop-i-preserved : goal.loop-i-preserved
loop-i-preserved c =
    let l = c.loop-i in
    let a = c.args in
    let fits : l.i < length a.room.now = search rules in
    let o : c.one_down.result ≡ a.lights.open / 2 ^ (l.i + 1) = c.one_down.ensures ∙ moved a.lights.open l.i l.invariant.opened in
    let g : c.one_down-in-loop-i.result ≡ a.lights.green / 2 ^ (l.i + 1) = c.one_down-in-loop-i.ensures ∙ moved a.lights.green l.i l.invariant.green in
    let now : c.shown.result ≡ shown a.lights (l.i + 1) = c.shown.ensures ∙ bottom_shown a.lights (l.i + 1) o g in
    record { length = search rules; written = rw (l.invariant.written, now) (one_written a.lights a.room.now l.i fits); opened = o; green = g }
