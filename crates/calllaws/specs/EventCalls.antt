-- Events run by calls of `folvkin_event`, each on the records that the one before wrote, readings asked by calls of `folvkin_reading`, and aspects by a
-- call of `folvkin_aspects`.
use Rattle.std.specs.Prelude.{ℕ, ◌*◌, ◌≤◌, ◌≡◌, Bool, List, [], ◌∷◌, map, length, take, get_or, eqb, leb, if◌then◌else◌}
use Rattle.words.specs.Words.{◌and◌}
use Rattle.block.specs.declared.event.Event.{Event}
use Rattle.block.specs.declared.reading.Reading.{Reading}
use Rattle.aspects.specs.Aspects.{green, code}
use Rattle.paper.specs.Given.{given}
use Rattle.folvkin.specs.Block.{event_in, longest_situation, event_packed, event_room, reading_told, packed, aspects_told, aspects_room}
use Rattle.calllaws.specs.Told.{Call, refusal_told, third_told}

-- an event, and the room that its call is lent
pub record Lent : Type 0 where
  pub event : Event
  pub room : List ℕ

abbrev pub events_lent : List Lent → List Event
events_lent lent = map (λ (l : Lent). l.event) lent

-- no situation is ever longer than 96 bytes
abbrev pub Rooms96 : List Lent → Type 0
Rooms96 [] = Unit {0}
Rooms96 (l ∷ lent) = (96 ≤ length l.room) × Rooms96 lent

-- by the contract of `folvkin_event`, whatever the event's bytes are
abbrev pub bytes_call : List ℕ → List ℕ → List ℕ → List ℕ → Call
bytes_call plan situation event room =
    record { told = event_packed (given plan situation) event room; room = event_room (given plan situation) event room }

abbrev pub event_call : List ℕ → List ℕ → Lent → Call
event_call plan situation l = bytes_call plan situation (l.event.code ∷ l.event.argument ∷ []) l.room

-- `refusal + 2^8 name + 2^16 length`: the records that it wrote
abbrev pub records_left : Call → List ℕ
records_left c = take (third_told c) c.room

-- each call answers 0, on the records that the one before wrote
unfoldable pub AllAnswer0 : List ℕ → List ℕ → List Lent → Type 0
AllAnswer0 plan situation [] = Unit {0}
AllAnswer0 plan situation (l ∷ lent) =
    let c = event_call plan situation l in
    (refusal_told c ≡ 0) × AllAnswer0 plan (records_left c) lent

-- the records that the last one wrote
unfoldable pub records_at_the_end : List ℕ → List ℕ → List Lent → List ℕ
records_at_the_end plan situation [] = situation
records_at_the_end plan situation (l ∷ lent) = records_at_the_end plan (records_left (event_call plan situation l)) lent

-- by the contract of `folvkin_reading`: the number for refusal 0 and the value asked, `refusal + 2^8 value`
abbrev pub reading_call : List ℕ → List ℕ → Reading → ℕ
reading_call plan situation r = packed (reading_told (given plan situation) (r.kind ∷ r.argument ∷ []))

abbrev pub AllGive : List ℕ → List ℕ → List Reading → Type 0
AllGive plan situation [] = Unit {0}
AllGive plan situation (r ∷ readings) = (reading_call plan situation r ≡ 256 * r.value) × AllGive plan situation readings

-- ---- any calls of `folvkin_event`, refused ones included
-- an event's bytes, whatever they are, and the room that its call is lent, however long
pub record EventTry : Type 0 where
  pub event : List ℕ
  pub room : List ℕ

-- the records that the next call is made on: those that this one wrote, or its own where it is refused, which writes none
abbrev pub records_kept : List ℕ → Call → List ℕ
records_kept situation c = if eqb (refusal_told c) 0 then records_left c else situation

unfoldable pub records_after_all : List ℕ → List ℕ → List EventTry → List ℕ
records_after_all plan situation [] = situation
records_after_all plan situation (t ∷ tries) = records_after_all plan (records_kept situation (bytes_call plan situation t.event t.room)) tries

-- two bytes, and a room that every situation fits: any other try is refused by 20 or 24 at the latest
abbrev pub in_form : EventTry → Bool
in_form t = eqb (length t.event) 2 and leb longest_situation (length t.room)

-- the events tried
abbrev pub events_tried : List EventTry → List Event
events_tried [] = []
events_tried (t ∷ tries) = if in_form t then event_in t.event ∷ events_tried tries else events_tried tries

-- by the contract of `folvkin_aspects`
abbrev pub aspects_call : List ℕ → List ℕ → List ℕ → Call
aspects_call plan situation room = record { told = aspects_told (given plan situation) room; room = aspects_room (given plan situation) room }

-- a byte of what it leaves in the room, "aspects of 1..n, then of 129..128+n"; one that is not there would count as green
abbrev pub byte_shown : List ℕ → List ℕ → List ℕ → ℕ → ℕ
byte_shown plan situation room i = get_or (aspects_call plan situation room).room i (code green)
