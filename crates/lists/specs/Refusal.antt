-- The refusal of a question's lists. "Order: .. 3, 4, 21": "3 unknown code; 4 argument; .. 21 LN above 5, an event listed twice, a reading out
-- of range". 0 is accepted.
use Rattle.std.specs.Prelude.{ℕ, Bool, true, false, not, List, [], ◌∷◌, eqb, leb, if◌then◌else◌}
use Rattle.words.specs.Words.{◌and◌, ◌or◌}
use Rattle.block.specs.declared.line.Plan.{Plan}
use Rattle.block.specs.declared.event.Event.{Event}
use Rattle.block.specs.declared.reading.Reading.{Reading}
use Rattle.rulebook.specs.Apply.{known, argument_right}
use Rattle.signals.specs.Readings.{reading_in_range}

infix 30 ◌unless◌
infixr 20 ◌or_else◌
abbrev pub ◌unless◌ : ℕ → Bool → ℕ
n unless right = if right then 0 else n

-- the first refusal, or where there is none what the later checks give
abbrev pub ◌or_else◌ : ℕ → ℕ → ℕ
r or_else later = if eqb r 0 then later else r

-- "Refusals 3 and 4 go event by event."
unfoldable pub event_refusal : Plan → Event → ℕ
event_refusal p e = 3 unless known e or_else 4 unless argument_right p e

unfoldable pub events_refusal : Plan → List Event → ℕ
events_refusal p [] = 0
events_refusal p (e ∷ rest) = event_refusal p e or_else events_refusal p rest

-- "an event listed twice"
unfoldable pub listed : Event → List Event → Bool
listed e [] = false
listed e (d ∷ rest) = (eqb d.code e.code and eqb d.argument e.argument) or listed e rest

unfoldable pub listed_twice : List Event → Bool
listed_twice [] = false
listed_twice (e ∷ rest) = listed e rest or listed_twice rest

-- "a reading out of range"
unfoldable pub readings_in_range : Plan → List Reading → Bool
readings_in_range p [] = true
readings_in_range p (r ∷ rest) = reading_in_range p r.kind r.argument r.value and readings_in_range p rest

unfoldable pub lists_refusal : Plan → List Event → List Reading → ℕ → ℕ
lists_refusal p events readings length =
    events_refusal p events or_else 21 unless (leb length 5 and not (listed_twice events) and readings_in_range p readings)
