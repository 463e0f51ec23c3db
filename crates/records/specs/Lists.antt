-- "EV, count 1..12, then events; RD, count 0..6, then readings of three bytes; LN, length 0..5." A length above 5 is 21, and no matter of form.
use Rattle.std.specs.Prelude.{ℕ, ◌-◌, List, get_or}
use Rattle.rulebook.specs.Apply.{event}
use Rattle.block.specs.declared.event.Event.{Event}
use Rattle.block.specs.declared.reading.Reading.{Reading}
use Rattle.forms.specs.declared.Letters.{Letters}
use Rattle.forms.specs.Form.{Form}
use Rattle.forms.specs.Compose.{byte, ◌⊗◌, letters, counted, named}

abbrev pub EV : Letters
EV = record { first = 69; second = 86 }

abbrev pub RD : Letters
RD = record { first = 82; second = 68 }

abbrev pub LN : Letters
LN = record { first = 76; second = 78 }

-- "An event is two bytes, code and argument."
abbrev pub event_of : ℕ × ℕ → Event
event_of (c, a) = event c a

abbrev pub event_parts : Event → ℕ × ℕ
event_parts e = (e.code, e.argument)

abbrev pub one_event : Form Event
one_event = named event_of event_parts (byte ⊗ byte)

unfoldable pub events : Form (List Event)
events = letters EV (counted 1 12 one_event)

-- "Reading: kind, argument, value"
abbrev pub reading_of : ℕ × (ℕ × ℕ) → Reading
reading_of (k, (a, v)) = record { kind = k; argument = a; value = v }

abbrev pub reading_parts : Reading → ℕ × (ℕ × ℕ)
reading_parts r = (r.kind, (r.argument, r.value))

abbrev pub one_reading : Form Reading
one_reading = named reading_of reading_parts (byte ⊗ byte ⊗ byte)

unfoldable pub readings : Form (List Reading)
readings = letters RD (counted 0 6 one_reading)

unfoldable pub answer_length : Form ℕ
answer_length = letters LN byte

-- the event at a place of EV, counted from 1
unfoldable pub event_at : List Event → ℕ → Event
event_at items place = get_or items (place - 1) (event 0 0)
