use mathlib.Core.Path.{subst, sym}
use Rattle.situation.specs.Packed.{unpacked}
use Rattle.signals.specs.SignalSets.{Those, is_green}
use Rattle.signals.proofs.LitLaws.{green_set}
use Rattle.signals.proofs.lights.View.green_signals.Goals as goal

pub returns : goal.returns
returns c =
    let a = c.args in
    let v = a.self in
    let x = unpacked v.situation in
    let next = c.next_open-next in
    subst (Those v.plan (is_green v.plan x v.towards)) (sym c.both.ensures) (green_set v.plan x v.towards a.m next.result c.requires next.ensures)
