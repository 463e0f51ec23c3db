-- The measure is what is left of the text: each piece has some of it.
use Prim.Native.Nat.{◌+◌, ◌-◌, ◌≤◌}
use native.Mathlib.Omega.{arith}
use lib.ListN.{length, take, drop, length-take, length-drop}
use Rattle.std.proofs.Common.{sym, ◌∙◌}
use Rattle.printing.specs.Pieces.{progress_of}
use Rattle.printing.proofs.NotEnded.{not_ended}
use Rattle.printing.proofs.PiecesJoined.{shorter}
use Rattle.vectors.proofs.text.write_text.Goals as goal

pub loop-progress-smaller : goal.loop-progress-smaller
loop-progress-smaller c =
    let l = c.loop-progress in
    let n = l.at + l.size - l.at in
    let part = take n (drop l.at l.room) in
    let long : 47 ≤ length part = omega (arith, length-take n (drop l.at l.room), length-drop l.at l.room, l.invariant.1, c.if-room-at.false) in
    rw c.next_piece-piece.ensures.next (shorter c.args.question.now (progress_of l.progress) (length part) long (not_ended _ (sym c.is_some.ensures ∙ c.loop-progress-test.true)))
