use mathlib.Core.Path.{refl, ◌∙◌}
use Rattle.rulebook.specs.Place.{place}
use Rattle.situation.specs.Packed.{unpacked}
use Rattle.rulebook.proofs.Settled.{stays}
use Rattle.rulebook.proofs.SecondPasses.{lowered}
use Rattle.situation.proofs.Watched.{lowered_as}
use Rattle.situation.proofs.Situation.second.Goals as goal

pub returns : goal.returns
returns c =
    let a = c.args in
    let x = unpacked a.self in
    let at = place a.at x in
    c.with_watch.ensures ∙ lowered_as at a.self c.marked.ensures c.count-count.ensures ∙ stays x {y = lowered at x} refl refl
