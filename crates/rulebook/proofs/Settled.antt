-- An event that leaves both orientations and is not named in the rule leaves pending to its effect. Assumes nothing.
use Rattle.std.specs.Prelude.{if◌then◌else◌}
use mathlib.Core.Path.{◌≡◌, refl, sym, ap, ap₂, ◌∙◌}
use mathlib.Core.Bool.{Bool, true, false}
use Rattle.words.specs.Words.{◌or◌}
use Rattle.rulebook.specs.Situation.{Situation, nobody, with_pending}
use Rattle.rulebook.specs.Pending.{differ, changes, pending_settled}
use Rattle.block.specs.declared.codes.Orientation.{Orientation}

same : (a : Bool) → differ a a ≡ false
same true = refl
same false = refl

unchanged : (o : Orientation) → changes o o ≡ false
unchanged o = ap₂ ◌or◌ (same o.out) (same o.inward)

pub stays : (x : Situation) {y : Situation} → y.traffic.own.orientation ≡ x.traffic.own.orientation → y.traffic.other.orientation ≡ x.traffic.other.orientation → y ≡ pending_settled false x y
stays x {y} e f =
    ap (λ (v : Bool). with_pending (if v then nobody else y.traffic.pending) y)
    (sym (ap₂ (λ (o p : Orientation). changes x.traffic.own.orientation o or changes x.traffic.other.orientation p) e f
    ∙ ap₂ ◌or◌ (unchanged x.traffic.own.orientation) (unchanged x.traffic.other.orientation)))
