-- `mark_typed`: the line is the one of the pattern, and its bytes are copied to the front of the room.
use mathlib.Core.Path.{◌≡◌, sym, ap, ◌∙◌, subst}
use mathlib.Core.Bool.{true, false, not}
use lib.Dec.{T, leb}
use lib.Ieee.{binary32, of_bits, is_nan}
use Rattle.std.specs.Option.{is_some}
use Rattle.numeric.specs.Number.{Line}
use Rattle.numeric.specs.Told.{numbers_of}
use Rattle.marking.specs.Typed.{answer_of}
use Rattle.marking.proofs.TypedCall.{round_no_nan, written}
use Rattle.marking.proofs.mark_typed.Goals as goal

pub line_bytes-bytes-requires : goal.line_bytes-bytes-requires
line_bytes-bytes-requires c =
    subst (λ (z : Line). T (not (is_nan z.model))) (sym c.sheet_line-line.ensures) (round_no_nan binary32 false _ _)

pub returns-clause-room : goal.returns-clause-room
returns-clause-room c =
    let a = c.args in
    let same : numbers_of c.in_ok-question.question ≡ a.numbers = rw c.in_ok-question.ensures.ok_part at c.question.ensures.same in
    let known : leb a.typed.unit 2 ≡ true = sym c.answer.ensures.known ∙ ap is_some c.in_ok-answer.ensures.ok_part in
    let answered : c.in_ok-answer.answer ≡ answer_of a.typed.unit (of_bits binary32 a.typed.pattern) = rw c.in_ok-answer.ensures.ok_part at c.answer.ensures.same in
    written a.numbers c.in_ok-question.question a.typed.unit a.typed.pattern c.given.result c.in_ok-answer.answer c.sheet_line-line.result c.line_bytes-bytes.result a.room.now c.copy.new.to
    same known answered c.if-room-lt-LINE.false c.sheet_line-line.ensures c.given.ensures c.line_bytes-bytes.ensures c.copy.ensures.copied
