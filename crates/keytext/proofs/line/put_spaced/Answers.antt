-- A space and a place more, where the places before them end.
use Rattle.std.proofs.Common.{◌≡◌, ◌<◌, ◌≤◌, ◌+◌, ◌++◌, ℕ, [], ◌∷◌, List, length, get_or, take, sym, ◌∙◌, arith, length-append}
use lib.ListN.{length-set}
use Rattle.keytext.specs.Decimal.{decimal}
use Rattle.keytext.specs.Text.{spaced}
use Rattle.keytext.proofs.LineLaws.{spaced_more, spaced_longer, spaced_within}
use Rattle.keytext.proofs.RoomLaws.{over_none, then_one, then_text}
use Rattle.keytext.proofs.line.put_spaced.Goals as goal

fits : (w : List ℕ) (i at end n long : ℕ) → i < length w → end ≡ at + length (spaced (take i w)) → n ≡ long → at + length (spaced w) ≤ long → end + 1 + length (decimal (get_or w i 0)) ≤ n
fits w i at end n long h e kept f = omega (arith, spaced_longer w i h, spaced_within w (i + 1))

pub loop-place-init : goal.loop-place-init
unfolding spaced
loop-place-init c = (omega arith, sym (over_none c.args.at c.args.room.now))

pub bounds-room-end : goal.bounds-room-end
bounds-room-end c = omega (arith, fits _ _ _ _ _ _ c.loop-place-test.true c.loop-place.invariant.0 c.loop-place.auto.room c.requires)

pub overflow_add-end : goal.overflow_add-end
overflow_add-end c = record { fits = omega (arith, fits _ _ _ _ _ _ c.loop-place-test.true c.loop-place.invariant.0 c.loop-place.auto.room c.requires) }

pub put_place-end-requires : goal.put_place-end-requires
put_place-end-requires c = rw length-set (omega (arith, fits _ _ _ _ _ _ c.loop-place-test.true c.loop-place.invariant.0 c.loop-place.auto.room c.requires))

pub loop-place-preserved : goal.loop-place-preserved
loop-place-preserved c =
    let a = c.args in
    let l = c.loop-place in
    let p = c.put_place-end in
    let w = a.word.now in
    let i = l.place-index in
    let before = spaced (take i w) in
    let lt : i < length w = c.loop-place-test.true in
    let f : l.end + 1 + length (decimal (get_or w i 0)) ≤ length l.room = fits w i a.at l.end (length l.room) (length a.room.now) lt l.invariant.0 l.auto.room c.requires in
    let l1 = length-append before (32 ∷ []) in
    let kept = l.auto.room in
    let e = l.invariant.0 in
    let space = then_one a.at l.end 32 before l.room a.room.now e l.invariant.1 (omega arith) in
    rw (spaced_more w i lt)
    (omega (arith, spaced_longer w i lt, length-append (before ++ (32 ∷ [])) (decimal (get_or w i 0)), p.ensures.end), p.ensures.room ∙ then_text a.at (l.end + 1) (before ++ (32 ∷ [])) (decimal (get_or w i 0)) _ a.room.now (omega arith) space (omega arith))
