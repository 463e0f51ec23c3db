-- `gap_between`: the cut values of the number give those of its distance.
use native.Mathlib.Omega.{arith}
use Prim.Native.Nat.{◌*◌, ◌^◌}
use lib.Pow.{pow_pos}
use Rattle.numeric.specs.Exact.{◌÷◌}
use Rattle.numeric.specs.Inner.{Cuts, value_of}
use Rattle.numeric.proofs.Cutting.{scaled_cuts, close, gap_negative, gap_below, gap_above}
use Rattle.numeric.proofs.judged.gap_between.Goals.{After-from-goal}
use Rattle.numeric.proofs.judged.gap_between.Goals as goal

cuts : (c : After-from-goal) → Cuts (2 ^ 44) (1000 * c.args.exact.bottom * (c.args.number.digits * 2 ^ c.args.number.power)) (2 ^ 149) c.scaled-typed.result.low c.scaled-typed.result.high
cuts c =
    let r = c.scaled-typed in
    scaled_cuts c.args.exact.bottom c.args.number.digits c.args.number.power c.from.result c.from-2.result r.result.low r.result.high c.from.ensures c.from-2.ensures r.ensures.low r.ensures.high

pub returns-then-number-clause-cuts : goal.returns-then-number-clause-cuts
returns-then-number-clause-cuts c =
    let p = c.args.number in
    let q = c.args.exact in
    let r = c.scaled-typed.result in
    rw c.from-goal.ensures (gap_negative (q.top ÷ q.bottom) (value_of p) r.low r.high (pow_pos 149) (cuts (goal.at.returns-then-number-clause-cuts c).After-from-goal) c.if-number.true).1

pub returns-then-low-goal : goal.returns-then-low-goal
returns-then-low-goal c =
    let p = c.args.number in
    let q = c.args.exact in
    let r = c.scaled-typed.result in
    let near = (close (1000 * c.from.result * c.from-2.result * 2 ^ p.power) (2 ^ 149) r.low r.high c.scaled-typed.ensures.low c.scaled-typed.ensures.high).1 in
    let all = gap_below (q.top ÷ q.bottom) (value_of p) r.low r.high (pow_pos 149) (cuts (goal.at.returns-then-low-goal c).After-from-goal) c.if-number.false (omega arith) near (omega arith) in
    record { side = all.0; cuts = rw c.from-goal.ensures all.1 }

pub returns : goal.returns
returns c =
    let p = c.args.number in
    let q = c.args.exact in
    let r = c.scaled-typed.result in
    let all = gap_above (q.top ÷ q.bottom) (value_of p) r.low r.high (pow_pos 149) (cuts (goal.at.returns c).After-from-goal) c.if-number.false (omega arith) (omega arith) in
    record { side = all.0; cuts = rw c.from-goal.ensures all.1 }
