-- Assumes nothing.
use Rattle.std.specs.Prelude.{if◌then◌else◌}
use Prim.Native.Nat.{ℕ}
use mathlib.Core.Path.{◌≡◌, subst, sym, ap, ap₂, ◌∙◌}
use mathlib.Core.Bool.{Bool, not}
use Rattle.words.specs.Words.{◌and◌}
use Rattle.block.specs.declared.codes.Orientation.{Orientation}
use Rattle.sections.specs.Sections.{none}
use Rattle.sections.specs.Sets.{either, ◌minus◌}
use Rattle.block.specs.Line.{in_area, entrance, terminus}
use Rattle.rulebook.specs.Situation.{Station, station, area_direction, held}
use Rattle.block.specs.declared.line.Name.{Name}
use Rattle.situation.specs.Packed.{unpacked}
use Rattle.signals.specs.SignalSets.{Those, OffLine, leaves, arrives, block_lit}
use Rattle.signals.proofs.LitLaws.{area_those, area_off, block_set, off_minus, off_either, off_given}
use Rattle.signals.proofs.lights.View.block_lit.Goals as goal

pub returns : goal.returns
returns c =
    let a = c.args in
    let v = a.self in
    let x = unpacked v.situation in
    let here = v.is_plan in
    let near = c.area in
    let far = c.area-2 in
    let from = c.entrance-s.ensures in
    let to = c.terminus-t.ensures in
    let start = c.station-from.ensures ∙ ap (station x) from in
    let end = c.station-to.ensures ∙ ap (station x) to in
    let goes : (c.area_direction.result.out and not c.has_bslg.result) ≡ leaves (station x (entrance v.towards)) =
    ap₂ (λ (o : Orientation) (b : Bool). o.out and not b) (c.area_direction.ensures ∙ ap area_direction start) (c.has_bslg.ensures ∙ ap (λ (t : Station). t.bslg) start) in
    let comes : (c.area_direction-2.result.inward and not c.has_bslg-2.result) ≡ arrives (station x (terminus v.towards)) =
    ap₂ (λ (o : Orientation) (b : Bool). o.inward and not b) (c.area_direction-2.ensures ∙ ap area_direction end) (c.has_bslg-2.ensures ∙ ap (λ (t : Station). t.bslg) end) in
    let set : c.minus.result ≡ either (if leaves (station x (entrance v.towards)) then near.result else none) (if arrives (station x (terminus v.towards)) then far.result else none) minus held x v.towards =
    c.minus.ensures
    ∙ ap₂ (λ (m h : ℕ). m minus h)
    (c.either-lit.ensures
    ∙ ap₂ either
    (c.given.ensures ∙ ap (λ (v : Bool). if v then near.result else none) goes)
    (c.given-2.ensures ∙ ap (λ (v : Bool). if v then far.result else none) comes))
    c.held.ensures in
    let out : Bool = leaves (station x (entrance v.towards)) in
    let inward : Bool = arrives (station x (terminus v.towards)) in (
      subst (Those v.plan (block_lit v.plan x v.towards)) (sym set)
          (block_set v.plan x v.towards near.result far.result
          (subst (λ (s : Name). Those v.plan (in_area v.plan s) near.result) from (area_those v.plan _ near.result here near.ensures))
          (subst (λ (s : Name). Those v.plan (in_area v.plan s) far.result) to (area_those v.plan _ far.result here far.ensures))),
      subst (OffLine v.plan) (sym set)
          (off_minus v.plan (either (if out then near.result else none) (if inward then far.result else none)) (held x v.towards)
          (off_either v.plan (if out then near.result else none) (if inward then far.result else none) (off_given v.plan out near.result (area_off v.plan _ near.result near.ensures)) (off_given v.plan inward far.result (area_off v.plan _ far.result far.ensures)))),
    )
