use Prim.Native.Nat.{ℕ}
use mathlib.Core.Bool.{Bool}
use mathlib.Core.Path.{ap, ap₂, ◌∙◌}
use Rattle.words.specs.Words.{◌and◌, ◌or◌}
use Rattle.sections.proofs.SetsOfSets.{in_either}
use Rattle.sections.specs.Sections.{◌belongs_to◌}
use Rattle.sections.specs.Sets.{either}
use Rattle.block.specs.Line.{in_area, some_section}
use Rattle.block.proofs.SomeSection.{some_alike}
use Rattle.block.specs.declared.line.Direction.TheVariants.{TowardsA, TowardsB}
use Rattle.rulebook.specs.Situation.{held}
use Rattle.situation.specs.Packed.{unpacked}
use Rattle.situation.proofs.Situation.held_in_area.Goals as goal

pub returns : goal.returns
returns c =
    let a = c.args in
    let p = a.plan in
    let x = unpacked a.self in
    let towardsb = held x TowardsB in
    let towardsa = held x TowardsA in
    let both = c.either.ensures ∙ ap₂ either c.held-towardsb.ensures c.held-towardsa.ensures in
    c.some_in_area.ensures
    ∙ ap (λ (m : ℕ). some_section p (λ k. in_area p a.s k and (k belongs_to m))) both
    ∙ some_alike p.sections (λ k. in_area p a.s k and (k belongs_to either towardsb towardsa)) (λ k. in_area p a.s k and ((k belongs_to towardsb) or (k belongs_to towardsa)))
    (λ k. ap (λ (v : Bool). in_area p a.s k and v) (in_either k towardsb towardsa))
