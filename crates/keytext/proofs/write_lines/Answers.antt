-- A line more, where those before it end; with the last slot's line all are written.
use Rattle.std.proofs.Common.{rules, ◌≡◌, ◌*◌, ◌/◌, [], length, get_or, map, take, refl, sym, ap, ◌∙◌, arith, length-append}
use mathlib.Core.List.{flatten}
use Rattle.std.proofs.lemmas.List.{take_all}
use Rattle.keylaws.specs.Slots.{word_of}
use Rattle.keytext.specs.Text.{line, lines, words}
use Rattle.keytext.proofs.LineLaws.{line_short}
use Rattle.keytext.proofs.LinesOfSlots.{words_of_chunks, lines_one_more}
use Rattle.keytext.proofs.RoomLaws.{over_none, then_text, too_short, long_enough}
use Rattle.keytext.proofs.write_lines.Goals as goal

pub returns-then-room-whole : goal.returns-then-room-whole
returns-then-room-whole c =
    let slots = c.args.slots.now in
    let short = too_short (20 * (length slots / 6)) (lines (words slots)) c.args.room.now (omega (arith, c.as_chunks.ensures.front_len)) in
    record { fits = search rules; told = short.0; room = short.1.0; within = search rules }

pub loop-slot-init : goal.loop-slot-init
unfolding lines flatten
loop-slot-init c = (refl, sym (over_none 0 c.args.room.now), omega arith)

pub put_line-end-requires : goal.put_line-end-requires
put_line-end-requires c =
    let w = c.word_of in
    omega (arith, line_short w.result.now w.ensures.places.1 w.ensures.places.0)

pub loop-slot-preserved : goal.loop-slot-preserved
loop-slot-preserved c =
    let l = c.loop-slot in
    let w = c.word_of in
    let p = c.put_line-end in
    let i = l.slot-index in
    let whole = c.as_chunks.result.0.now in
    let before = lines (map word_of (take i whole)) in
    let e : w.result.now ≡ word_of (get_or whole i []) = w.ensures.word in
    let short = line_short w.result.now w.ensures.places.1 w.ensures.places.0 in
    let long = length-append before (line w.result.now) in
    let joined = p.ensures.room ∙ then_text 0 l.end before (line w.result.now) _ c.args.room.now (omega arith) l.invariant.1 (omega arith) in
    rw (lines_one_more whole i c.loop-slot-test.true, ← e) (omega arith, joined, omega arith)

pub returns : goal.returns
returns c =
    let l = c.loop-slot in
    let slots = c.args.slots.now in
    let whole = c.as_chunks.result.0.now in
    let all : lines (map word_of (take l.slot-index whole)) ≡ lines (words slots) =
    ap lines (rw (take_all l.slot-index whole (omega arith), c.as_chunks.ensures.front) (sym (words_of_chunks slots))) in
    let e = rw all at l.invariant.0 in
    let f = rw all at l.invariant.1 in
    let long = long_enough (20 * (length slots / 6)) _ (lines (words slots)) _ c.args.room.now (omega (arith, c.as_chunks.ensures.front_len)) (omega (arith, l.auto.room)) e f in
    record { fits = search rules; told = long.0; room = long.1.0; within = long.1.1 }
