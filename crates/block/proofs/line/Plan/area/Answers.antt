use mathlib.Core.Path.{◌≡◌, ap₂, subst, sym, ◌∙◌}
use Rattle.sections.specs.Sets.{both, ◌minus◌}
use Rattle.block.specs.Areas.{AreaOf}
use Rattle.block.specs.declared.line.Name.{Name}
use Rattle.block.specs.declared.line.Name.TheVariants.{StationA, StationB}
use Rattle.block.proofs.Area.{area_A, area_B}
use Rattle.block.proofs.line.Plan.area.Goals as goal

pub returns-in-StationA : goal.returns-in-StationA
returns-in-StationA c =
    let a = c.args in
    let here : StationA ≡ a.s = cc in
    let set = c.both.ensures ∙ ap₂ both c.sections_to-line.ensures c.sections_to-a.ensures in
    subst (λ (s : Name). AreaOf a.self s c.both.result) here (subst (AreaOf a.self StationA) (sym set) (area_A a.self))

pub returns-in-StationB : goal.returns-in-StationB
returns-in-StationB c =
    let a = c.args in
    let here : StationB ≡ a.s = cc in
    let set = c.minus.ensures ∙ ap₂ ◌minus◌ c.sections_to-line.ensures c.sections_to-a.ensures in
    subst (λ (s : Name). AreaOf a.self s c.minus.result) here (subst (AreaOf a.self StationB) (sym set) (area_B a.self))
