-- Assumes nothing.
use Rattle.std.specs.Prelude.{if◌then◌else◌}
use Prim.Native.Nat.{ℕ}
use mathlib.Core.Path.{◌≡◌, subst, sym, ap, ap₂, ◌∙◌}
use mathlib.Core.Bool.{Bool}
use Rattle.words.specs.Words.{◌and◌}
use Rattle.sections.specs.Sections.{none, only}
use Rattle.block.specs.Line.{first_section, entrance}
use Rattle.rulebook.specs.Situation.{station, area_direction, ◌has_exit_route}
use Rattle.block.specs.declared.line.Name.{Name}
use Rattle.block.specs.declared.codes.Orientation.{Orientation}
use Rattle.rulebook.specs.Situation.{Station}
use Rattle.situation.specs.Packed.{unpacked}
use Rattle.signals.specs.SignalSets.{Those, OffLine, exit_lit}
use Rattle.signals.proofs.LitLaws.{exit_set, off_given, off_only, first_small, first_inside}
use Rattle.signals.proofs.lights.View.exit_lit.Goals as goal

pub returns : goal.returns
returns c =
    let a = c.args in
    let v = a.self in
    let x = unpacked v.situation in
    let at = c.entrance-s.ensures in
    let t = station x (entrance v.towards) in
    let marks = c.station-t.ensures ∙ ap (station x) at in
    let set : c.given.result ≡ (if t has_exit_route and (area_direction t).out then only (first_section v.plan (entrance v.towards)) else none) =
    c.given.ensures
    ∙ ap₂ (λ (v : Bool) (m : ℕ). if v then m else none)
    (ap₂ (λ (v : Bool) (o : Orientation). v and o.out)
    (c.routed-routed.ensures ∙ ap (λ (u : Station). u has_exit_route) marks)
    (c.area_direction-way.ensures ∙ ap area_direction marks))
    (c.first.ensures ∙ ap (λ (n : Name). only (first_section v.plan n)) at) in
    let first = first_section v.plan (entrance v.towards) in (
      subst (Those v.plan (exit_lit v.plan x v.towards)) (sym set) (exit_set v.plan x v.towards v.is_plan),
      subst (OffLine v.plan) (sym set)
          (off_given v.plan (t has_exit_route and (area_direction t).out) (only first)
          (off_only v.plan first (first_small v.plan (entrance v.towards) v.is_plan) (first_inside v.plan (entrance v.towards) v.is_plan))),
    )
