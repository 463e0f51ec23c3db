-- It is one digit, or what the tenth part leaves and one digit after it.
use native.Mathlib.Omega.{arith}
use Rattle.keytext.proofs.DecimalLaws.{decimal_one, decimal_more, length_one, length_more}
use Rattle.keytext.proofs.RoomLaws.{over_one, then_one}
use Rattle.keytext.proofs.number.+put_number.Goals as goal

pub bounds-room-at : goal.bounds-room-at
bounds-room-at t c = omega (arith, length_one _ c.if-n-lt10.true)

pub returns-then-n-lt10-clause-end : goal.returns-then-n-lt10-clause-end
returns-then-n-lt10-clause-end t c = rw (length_one _ c.if-n-lt10.true)

pub returns-then-n-lt10-clause-room : goal.returns-then-n-lt10-clause-room
returns-then-n-lt10-clause-room t c =
    let l = length_one _ c.if-n-lt10.true in
    rw (decimal_one _ c.if-n-lt10.true, ← c.digit.ensures) (over_one _ _ _ (omega arith))

pub put_number-last-requires : goal.put_number-last-requires
put_number-last-requires t c = (omega arith, omega (arith, length_more _ c.if-n-lt10.false))

pub bounds-room-last : goal.bounds-room-last
bounds-room-last t c = omega (arith, length_more _ c.if-n-lt10.false)

pub overflow_add-result-2 : goal.overflow_add-result-2
overflow_add-result-2 t c = record { fits = omega (arith, length_more _ c.if-n-lt10.false) }

pub returns-clause-end : goal.returns-clause-end
returns-clause-end t c = omega (arith, length_more _ c.if-n-lt10.false)

pub returns-clause-room : goal.returns-clause-room
returns-clause-room t c =
    let p = c.put_number-last in
    let l = length_more _ c.if-n-lt10.false in
    rw (decimal_more _ c.if-n-lt10.false, c.digit-2.ensures) (then_one c.args.at _ _ _ _ _ p.ensures.end p.ensures.room (omega arith))
