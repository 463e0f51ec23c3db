-- The school's first rule after every sequence of events. From four facts, none of them about a single event: a signal that is off red has its area's
-- direction (Opposing); a sound station's area has at most one (OneDirection); in a sound situation not both stations are out (NotBothOut); every event,
-- refused or not, leaves a sound situation sound (SoundAfter). Assumes nothing.
use lib.Dec.{T}
use Rattle.block.specs.declared.line.Plan.{Plan}
use Rattle.block.specs.declared.line.Name.TheVariants.{StationA, StationB}
use Rattle.rulebook.specs.Situation.{Kept}
use Rattle.rulebook.specs.Sound.{sound}
use Rattle.rulebook.specs.Apply.{after_events}
use Rattle.rulebook.proofs.Every.{station_parts}
use Rattle.rulebook.proofs.SoundnessKept.{parts, sound_after}
use Rattle.rulebook.proofs.OneDirection.{one_direction}
use Rattle.rulebook.proofs.NotBothOut.{not_both_out}
use Rattle.aspects.specs.Laws.{FirstRule}
use Rattle.aspects.proofs.Opposing.{OneWay, opposing_red}

one_way : (p : Plan) (x : Kept) → T (sound p x) → OneWay x
one_way p x t StationA = one_direction x.traffic.own (station_parts x (parts p x t).stations).own
one_way p x t StationB = one_direction x.traffic.other (station_parts x (parts p x t).stations).other

pub first_rule : FirstRule
first_rule p plan x t events =
    let y = after_events p x events in
    let s = sound_after p plan x t events in
    record { opposing = opposing_red p plan y (one_way p y s); orientations = not_both_out p y s }
