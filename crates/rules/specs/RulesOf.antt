-- The rules of a question, in the form that a key knows them: the real events and readings, on one plan.
use Rattle.std.specs.Prelude.{ℕ, Bool, true, List, [], ◌∷◌, length, eqb, if◌then◌else◌}
use Rattle.words.specs.Words.{◌and◌}
use Rattle.keylaws.specs.Rules.{Rules, Word}
use Rattle.block.specs.declared.line.Plan.{Plan}
use Rattle.block.specs.declared.event.Event.{Event}
use Rattle.block.specs.declared.reading.Reading.{Reading}
use Rattle.rulebook.specs.Situation.{Kept}
use Rattle.rulebook.specs.Apply.{stepped, Outcome}
use Rattle.rulebook.specs.Names.{name}
use Rattle.signals.specs.Readings.{reading_holds}
use Rattle.records.specs.Lists.{event_at}

-- what the event at a place gives
abbrev pub tried : Plan → List Event → Kept → ℕ → Outcome
tried p events x place = stepped p x (event_at events place)

-- whether all readings hold
unfoldable pub all_hold : Plan → List Reading → Kept → Bool
all_hold p [] x = true
all_hold p (r ∷ rest) x = reading_holds p x r.kind r.argument r.value and all_hold p rest x

abbrev pub rules_of : Plan → List Event → List Reading → Rules
rules_of p events readings =
    record {
      Situation = Kept;
      events = length events;
      refusal = λ x place. (tried p events x place).refusal;
      next = λ x place. (tried p events x place).next;
      holds = all_hold p readings;
    }

-- (02, Req 01) what is named by the refusal at which a run stops; 0 where no event is refused
unfoldable pub name_told : Plan → List Event → Kept → Word → ℕ
name_told p events x [] = 0
name_told p events x (place ∷ w) =
    if eqb (tried p events x place).refusal 0 then name_told p events (tried p events x place).next w else
    name p x (event_at events place) (tried p events x place).refusal
