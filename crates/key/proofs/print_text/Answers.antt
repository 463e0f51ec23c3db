-- A piece and what is left after it are what was left.
use Rattle.std.proofs.Common.{◌≡◌, ◌+◌, ◌≤◌, length, sym, refl, ap, ◌∙◌, arith}
use native.Mathlib.Nat.{zero-add}
use Rattle.printing.specs.Pieces.{progress_of, rest}
use Rattle.printing.proofs.PiecesJoined.{nothing_left, lengths_add, shorter, rest_of_start}
use Rattle.printing.proofs.NotEnded.{not_ended, has_ended}
use Rattle.printing.proofs.ShortText.{text_short}
use Rattle.key.proofs.print_text.Goals as goal

pub loop-rt-init : goal.loop-rt-init
loop-rt-init c = (refl, rw (c.start.ensures, zero-add) (ap length (rest_of_start c.args.question.now)))

pub overflow_add-printed : goal.overflow_add-printed
overflow_add-printed c =
    let d = c.next_piece-piece in
    let adds : d.result.length + length (rest c.args.question.now (progress_of d.result.next)) ≡ length (rest c.args.question.now (progress_of c.loop-rt.progress)) = rw (d.ensures.told, d.ensures.next) (lengths_add c.args.question.now (progress_of c.loop-rt.progress) (length c.loop-rt.room)) in
    record { fits = omega (arith, adds, c.loop-rt.invariant.1, text_short c.args.question.now) }

pub loop-rt-smaller : goal.loop-rt-smaller
loop-rt-smaller c =
    let l = c.loop-rt in
    let long : 47 ≤ length l.room = omega (arith, l.invariant.0, c.requires) in
    rw c.next_piece-piece.ensures.next (shorter c.args.question.now (progress_of l.progress) (length l.room) long (not_ended _ (sym c.is_some.ensures ∙ c.loop-rt-test.true)))

pub loop-rt-preserved : goal.loop-rt-preserved
loop-rt-preserved c =
    let d = c.next_piece-piece in
    let adds : d.result.length + length (rest c.args.question.now (progress_of d.result.next)) ≡ length (rest c.args.question.now (progress_of c.loop-rt.progress)) = rw (d.ensures.told, d.ensures.next) (lengths_add c.args.question.now (progress_of c.loop-rt.progress) (length c.loop-rt.room)) in
    (c.next_piece-piece.auto.room ∙ c.loop-rt.invariant.0, omega (arith, adds, c.loop-rt.invariant.1))

pub returns-clause-told : goal.returns-clause-told
returns-clause-told c = omega (arith, c.loop-rt.invariant.1, ap length (nothing_left c.args.question.now (progress_of c.loop-rt.progress) (has_ended _ (sym c.is_some.ensures ∙ c.loop-rt-test.false))))
