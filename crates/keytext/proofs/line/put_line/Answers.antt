-- The empty sequence: two bytes. Any other: the first place, the others after spaces, the end of the line, each where the one before it ends.
use Rattle.std.proofs.Common.{◌++◌, length, get_or, drop, ap, ◌∙◌, arith, length-append}
use Rattle.std.proofs.lemmas.List.{take_rest}
use lib.ListN.{length-set}
use Rattle.keytext.specs.Decimal.{decimal}
use Rattle.keytext.specs.Text.{spaced}
use Rattle.keytext.proofs.LineLaws.{line_none, line_more, line_length}
use Rattle.keytext.proofs.RoomLaws.{over_two, then_one, then_text}
use Rattle.keytext.proofs.line.put_line.Goals as goal

pub bounds-room-at : goal.bounds-room-at
bounds-room-at c = omega (arith, ap length (line_none c.args.word.now c.in-empty.len_below))

pub bounds-room-at-in-empty : goal.bounds-room-at-in-empty
bounds-room-at-in-empty c = rw length-set (omega (arith, ap length (line_none c.args.word.now c.in-empty.len_below)))

pub returns-in-empty-clause-end : goal.returns-in-empty-clause-end
returns-in-empty-clause-end c = omega (arith, ap length (line_none c.args.word.now c.in-empty.len_below))

pub returns-in-empty-clause-room : goal.returns-in-empty-clause-room
returns-in-empty-clause-room c =
    let none = line_none c.args.word.now c.in-empty.len_below in
    let two = ap length none in
    rw none (over_two c.args.at 45 10 c.args.room.now (omega arith))

pub put_place-end-requires : goal.put_place-end-requires
put_place-end-requires c = omega (arith, line_length c.args.word.now c.in-len1-up.len_at_least)

pub put_spaced-last-requires : goal.put_spaced-last-requires
put_spaced-last-requires c = rw (take_rest c.args.word.now 1) (omega (arith, line_length c.args.word.now c.in-len1-up.len_at_least))

pub bounds-room-last : goal.bounds-room-last
bounds-room-last c =
    let long = line_length c.args.word.now c.in-len1-up.len_at_least in
    let e = rw (take_rest c.args.word.now 1) at c.put_spaced-last.ensures.end in
    omega arith

pub overflow_add-result-in-len1-up : goal.overflow_add-result-in-len1-up
overflow_add-result-in-len1-up c =
    let e = rw (take_rest c.args.word.now 1) at c.put_spaced-last.ensures.end in
    record { fits = omega (arith, line_length c.args.word.now c.in-len1-up.len_at_least) }

pub returns-in-len1-up-clause-end : goal.returns-in-len1-up-clause-end
returns-in-len1-up-clause-end c =
    let e = rw (take_rest c.args.word.now 1) at c.put_spaced-last.ensures.end in
    omega (arith, line_length c.args.word.now c.in-len1-up.len_at_least)

pub returns-in-len1-up-clause-room : goal.returns-in-len1-up-clause-room
returns-in-len1-up-clause-room c =
    let a = c.args in
    let p = c.put_place-end in
    let s = c.put_spaced-last in
    let w = a.word.now in
    let some = c.in-len1-up.len_at_least in
    let e = rw (take_rest w 1) at s.ensures.end in
    let f = rw (take_rest w 1) at s.ensures.room in
    let long = line_length w some in
    let first = decimal (get_or w 0 0) in
    let others = spaced (drop 1 w) in
    let both = length-append first others in
    let joined = then_text a.at p.result first others _ a.room.now p.ensures.end p.ensures.room (omega arith) in
    rw (line_more w some) (then_one a.at s.result 10 (first ++ others) _ a.room.now (omega arith) (f ∙ joined) (omega arith))
