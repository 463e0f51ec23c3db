-- One digit, two digits of which the first is 1, or what the number leaves.
use native.Mathlib.Omega.{arith}
use lib.ListN.{length-set}
use Rattle.keytext.proofs.DecimalLaws.{decimal_one, decimal_two, length_one, length_two}
use Rattle.keytext.proofs.RoomLaws.{over_one, over_two}
use Rattle.keytext.proofs.number.put_place.Goals as goal

pub bounds-room-at : goal.bounds-room-at
bounds-room-at c = omega (arith, length_one c.args.place (omega arith))

pub returns-then-n-lt10-clause-end : goal.returns-then-n-lt10-clause-end
returns-then-n-lt10-clause-end c = rw (length_one c.args.place (omega arith))

pub returns-then-n-lt10-clause-room : goal.returns-then-n-lt10-clause-room
returns-then-n-lt10-clause-room c =
    let l = length_one c.args.place (omega arith) in
    rw (decimal_one c.args.place (omega arith), c.digit.ensures, c.from-n.ensures) (over_one _ _ _ (omega arith))

pub bounds-room-at-then-n-lt20 : goal.bounds-room-at-then-n-lt20
bounds-room-at-then-n-lt20 c = omega (arith, length_two c.args.place (omega arith) (omega arith))

pub bounds-room-at-then-n-lt20-2 : goal.bounds-room-at-then-n-lt20-2
bounds-room-at-then-n-lt20-2 c = rw length-set (omega (arith, length_two c.args.place (omega arith) (omega arith)))

pub returns-then-n-lt20-clause-end : goal.returns-then-n-lt20-clause-end
returns-then-n-lt20-clause-end c = rw (length_two c.args.place (omega arith) (omega arith))

pub returns-then-n-lt20-clause-room : goal.returns-then-n-lt20-clause-room
returns-then-n-lt20-clause-room c =
    let l = length_two c.args.place (omega arith) (omega arith) in
    rw (decimal_two c.args.place (omega arith) (omega arith), c.digit-then-n-lt20.ensures, c.digit-then-n-lt20-2.ensures, c.from-n.ensures) (over_two _ _ _ _ (omega arith))
