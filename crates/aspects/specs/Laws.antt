-- What is proved of the signals after every sequence of events: each law as a statement, proved under the same name in proofs/.
use Rattle.std.specs.Prelude.{ℕ, false, List, ◌≡◌, T}
use Rattle.words.specs.Words.{◌or◌}
use Rattle.block.specs.Line.{is_plan, is_section, first_section, away}
use Rattle.block.specs.declared.line.Plan.{Plan}
use Rattle.block.specs.declared.line.Name.{Name}
use Rattle.block.specs.declared.line.Name.TheVariants.{StationA, StationB}
use Rattle.block.specs.declared.line.Direction.{Direction}
use Rattle.block.specs.declared.event.Event.{Event}
use Rattle.rulebook.specs.Situation.{Kept, station, both_out, ◌under_AFBLE}
use Rattle.rulebook.specs.Sound.{sound}
use Rattle.rulebook.specs.Apply.{after_events}
use Rattle.aspects.specs.Covering.{covering, is_off_red, clear_both_ways}

-- ---- (02, Req 03) the school's first rule. What it says of a situation: "no section has both its covering signals off red, exit signals counted, and
-- the two stations are never both oriented out"
pub record FirstRuleIn (p : Plan) (x : Kept) : Type 0 where
  pub opposing : (k : ℕ) → T (is_section p k) → clear_both_ways p x k ≡ false
  pub orientations : both_out x ≡ false

-- "From any sound situation, after any sequence of events, refused ones included"
abbrev pub FirstRule : Type 0
FirstRule = (p : Plan) → T (is_plan p) → (x : Kept) → T (sound p x) → (events : List Event) → FirstRuleIn p (after_events p x events)

-- ---- and not because signals are always red: each is off red in some sound situation
pub record OffRed (p : Plan) (signal : ℕ) : Type 0 where
  pub situation : Kept
  pub is_sound : T (sound p situation)
  pub is_shown : T (is_off_red p situation signal)

abbrev pub OffRedSomewhere : Type 0
OffRedSomewhere = (p : Plan) → T (is_plan p) → (d : Direction) (k : ℕ) → T (is_section p k) → OffRed p (covering d k)

-- ---- "Signals 1 and 128+n are the exit signals of A and B": they are off red together only where a station is under AFBLE
abbrev pub exit_signal : Plan → Name → ℕ
exit_signal p s = covering (away s) (first_section p s)

abbrev pub BothExits : Type 0
BothExits =
    (p : Plan) → T (is_plan p) → (x : Kept) → T (sound p x) → (events : List Event) →
    let y = after_events p x events in
    T (is_off_red p y (exit_signal p StationA)) → T (is_off_red p y (exit_signal p StationB)) →
    T (station y StationA under_AFBLE or station y StationB under_AFBLE)
