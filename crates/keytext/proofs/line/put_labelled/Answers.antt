-- The label at the front, then the space, the number and the end of the line, each where the one before it ends.
use mathlib.Core.Path.{◌∙◌}
use mathlib.Core.List.{[], ◌∷◌, ◌++◌}
use Prim.Native.Nat.{◌+◌}
use native.Mathlib.Omega.{arith}
use lib.ListN.{length-set, length-append}
use lib.Seq.{take-length}
use Rattle.keytext.specs.Decimal.{decimal}
use Rattle.keytext.proofs.LineLaws.{labelled_length, labelled_whole}
use Rattle.keytext.proofs.RoomLaws.{copied, then_one, then_text}
use Rattle.keytext.proofs.line.put_labelled.Goals as goal

pub copy-at-requires : goal.copy-at-requires
copy-at-requires c = omega (arith, labelled_length c.args.label.now c.args.n)

pub bounds-room-at : goal.bounds-room-at
bounds-room-at c = omega (arith, labelled_length c.args.label.now c.args.n)

pub put_number-last-requires : goal.put_number-last-requires
put_number-last-requires c =
    let long = labelled_length c.args.label.now c.args.n in
    rw length-set (omega arith)

pub bounds-room-last : goal.bounds-room-last
bounds-room-last c =
    let kept = c.put_number-last.auto.room ∙ length-set c.copy-at.new.to c.copy-at.result 32 in
    omega (arith, labelled_length c.args.label.now c.args.n)

pub overflow_add-result : goal.overflow_add-result
overflow_add-result c = record { fits = omega (arith, labelled_length c.args.label.now c.args.n) }

pub returns-clause-end : goal.returns-clause-end
returns-clause-end c = omega (arith, labelled_length c.args.label.now c.args.n)

pub returns-clause-room : goal.returns-clause-room
returns-clause-room c =
    let a = c.args in
    let k = c.copy-at in
    let p = c.put_number-last in
    let long = labelled_length a.label.now a.n in
    let label = a.label.now in
    let number = decimal a.n in
    let room = a.room.now in
    let with-space = label ++ (32 ∷ []) in
    let l1 = length-append label (32 ∷ []) in
    let l2 = length-append with-space number in
    let first = k.ensures.copied ∙ (rw take-length at (copied label room)) in
    let second = then_one 0 k.result 32 label _ room (omega arith) first (omega arith) in
    let third = p.ensures.room ∙ then_text 0 (k.result + 1) with-space number _ room (omega arith) second (omega arith) in
    let fourth = then_one 0 p.result 10 (with-space ++ number) _ room (omega arith) third (omega arith) in
    rw (← labelled_whole label a.n) fourth
