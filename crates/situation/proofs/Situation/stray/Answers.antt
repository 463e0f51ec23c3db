use mathlib.Core.Path.{◌≡◌, sym, ap, ap₂, ◌∙◌}
use mathlib.Core.Bool.{Bool, true, false, not}
use Rattle.words.specs.Words.{◌and◌}
use Rattle.words.proofs.Tests.{and_true, and_false}
use Rattle.rulebook.specs.Situation.{any_exit_route}
use Rattle.rulebook.specs.Place.{place}
use Rattle.situation.specs.Packed.{unpacked}
use Rattle.situation.proofs.Taken.{expected_follows}
use Rattle.situation.proofs.Situation.stray.Goals as goal

pub returns-then-any_exit_route : goal.returns-then-any_exit_route
returns-then-any_exit_route c =
    let a = c.args in
    let x = unpacked a.self in
    let routed : any_exit_route x ≡ true = sym c.any_exit_route.ensures ∙ c.if-any_exit_route.true in
    sym (ap (λ (v : Bool). not (place a.at x).expected and not v) routed ∙ and_false (not (place a.at x).expected))

pub returns : goal.returns
returns c =
    let a = c.args in
    let x = unpacked a.self in
    let none : any_exit_route x ≡ false = sym c.any_exit_route.ensures ∙ c.if-any_exit_route.false in
    rw (c.comes-arrives.ensures, c.toward.ensures, c.comes-leaves.ensures, c.away.ensures, c.area_direction-way.ensures, c.own.ensures)
    (sym (ap₂ (λ (v u : Bool). not v and not u) (expected_follows a.at.plan a.at.own a.at.section x none) none ∙ and_true _))
