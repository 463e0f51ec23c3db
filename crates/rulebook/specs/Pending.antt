-- "Pending is cleared by any orientation change, any accepted AFBLI/AFBLE, any section becoming occupied, and link loss."
use Rattle.std.specs.Prelude.{Bool, not, if◌then◌else◌}
use Rattle.std.specs.Bool.{beq}
use Rattle.words.specs.Words.{◌or◌}
use Rattle.rulebook.specs.Situation.{Situation, nobody, with_pending}
use Rattle.block.specs.declared.codes.Orientation.{Orientation}

abbrev pub differ : Bool → Bool → Bool
differ a b = not (beq a b)

abbrev pub changes : Orientation → Orientation → Bool
changes o p = differ o.out p.out or differ o.inward p.inward

abbrev pub orientation_change : Situation → Situation → Bool
orientation_change x y = changes x.traffic.own.orientation y.traffic.own.orientation or changes x.traffic.other.orientation y.traffic.other.orientation

-- y, where an event leads from x, with the rule above; `always` says that the event is one of those named in it
abbrev pub pending_settled : Bool → Situation → Situation → Situation
pending_settled always x y = with_pending (if always or orientation_change x y then nobody else y.traffic.pending) y
