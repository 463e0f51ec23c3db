-- Assumes nothing.
use Rattle.std.specs.Prelude.{if◌then◌else◌}
use Prim.Native.Nat.{ℕ}
use mathlib.Core.Path.{◌≡◌, subst, sym, ap, ap₂, ◌∙◌}
use mathlib.Core.Bool.{Bool, not}
use Rattle.sections.specs.Sections.{none, only}
use Rattle.sections.specs.Sets.{either, ◌minus◌}
use Rattle.block.specs.Line.{first_section, terminus}
use Rattle.rulebook.specs.Situation.{station}
use Rattle.block.specs.declared.line.Name.{Name}
use Rattle.rulebook.specs.Situation.{Station}
use Rattle.situation.specs.Packed.{unpacked}
use Rattle.signals.specs.SignalSets.{next_open}
use Rattle.signals.specs.SignalSets.{Those}
use Rattle.signals.proofs.LitLaws.{last, ahead, entered, next_set}
use Rattle.signals.proofs.lights.View.next_open.Goals as goal

pub returns : goal.returns
returns c =
    let a = c.args in
    let v = a.self in
    let x = unpacked v.situation in
    let next = c.next_in in
    let edge = c.edge in
    let to = c.terminus-t.ensures in
    let end : c.first-last.result ≡ only (first_section v.plan (terminus v.towards)) = c.first-last.ensures ∙ ap (λ (t : Name). only (first_section v.plan t)) to in
    let enters : c.has_entry.result ≡ (station x (terminus v.towards)).entry = c.has_entry.ensures ∙ ap (λ (t : Station). t.entry) (c.station-station.ensures ∙ ap (station x) to) in
    let set : c.either.result ≡ either (ahead v.plan x v.towards a.m next.result edge.result minus only (last v.plan x v.towards a.m next.result edge.result)) (entered v.plan x v.towards a.m next.result edge.result) =
    c.either.ensures
    ∙ ap₂ either
    (c.minus.ensures
    ∙ ap₂ (λ (m k : ℕ). m minus k)
    (c.minus-next.ensures
    ∙ ap (λ (m : ℕ). next.result minus m) (c.given-unseen.ensures ∙ ap₂ (λ (v : Bool) (m : ℕ). if not v then m else none) c.linked.ensures c.single.ensures))
    end)
    (c.given-entered.ensures ∙ ap₂ (λ (v : Bool) (m : ℕ). if v then m else none) enters end) in
    subst (Those v.plan (next_open v.plan x v.towards)) (sym set)
    (next_set v.plan x v.towards a.m next.result edge.result v.is_plan next.ensures edge.ensures c.requires)
