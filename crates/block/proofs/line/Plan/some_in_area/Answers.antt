use Rattle.block.proofs.SomeInArea.{some_common}
use Rattle.block.proofs.line.Plan.some_in_area.Goals as goal

pub returns : goal.returns
returns c =
    let a = c.args in
    rw c.both.ensures (some_common a.self a.s c.area.result a.m c.area.ensures c.ranges.m.fits)
