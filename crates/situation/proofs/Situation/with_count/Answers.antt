use Prim.Native.Nat.{◌%◌}
use native.Mathlib.Omega.{arith}
use Rattle.situation.proofs.CountBits.{counted}
use Rattle.situation.proofs.Situation.with_count.Goals as goal

pub returns : goal.returns
returns c = rw c.from.ensures (counted c.args.self (c.args.count % 16) (omega arith))
