use mathlib.Core.Path.{sym, ap, ap₂, ◌∙◌}
use mathlib.Core.Bool.{Bool}
use Rattle.words.specs.Words.{◌and◌, ◌or◌}
use Rattle.rulebook.specs.Place.{place}
use Rattle.rulebook.specs.Situation.{◌annulled, ◌under_AFBLE}
use Rattle.situation.specs.Packed.{unpacked}
use Rattle.situation.proofs.Taken.{or_true, not_annulled, kept}
use Rattle.situation.proofs.Situation.taken.Goals as goal

pub returns-then-not-annulled : goal.returns-then-not-annulled
returns-then-not-annulled c =
    let a = c.args in
    let x = unpacked a.self in
    c.watched-next.ensures
    ∙ not_annulled (place a.at x) x (ap ◌annulled (sym c.own-own.ensures) ∙ sym c.annulled.ensures ∙ c.if-not-annulled.true)

pub returns-then-under_afble-first : goal.returns-then-under_afble-first
returns-then-under_afble-first c =
    let a = c.args in
    let x = unpacked a.self in
    let at = place a.at x in
    let under = ap ◌under_AFBLE (sym c.own-own.ensures) ∙ sym c.under_afble.ensures in
    c.watched-next.ensures
    ∙ kept at x (ap (λ (v : Bool). at.expected or v) (ap₂ ◌and◌ under (sym (rw c.from.ensures at c.is_first-first.ensures)) ∙ c.if-under_afble-first.true) ∙ or_true at.expected)
