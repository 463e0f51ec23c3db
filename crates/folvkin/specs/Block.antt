-- The calls on a plan and a situation, each the records exactly as they stand in a question. Refusals in the document's order: 20 where they are
-- not, or event or reading have another length than two bytes; 1, 2; 3, 4; 21; 24; then the event's own.
use Rattle.std.specs.Prelude.{ℕ, zero, suc, ◌+◌, ◌-◌, ◌*◌, List, [], ◌∷◌, ◌++◌, eqb, leb, ltb, length, get_or, if◌then◌else◌}
use Rattle.forms.specs.Form.{laid}
use Rattle.forms.specs.Whole.{Whole, refused as no_form, accepted, whole}
use Rattle.block.specs.Line.{plan_judged}
use Rattle.rulebook.specs.Judged.{judged}
use Rattle.block.specs.declared.line.Plan.{Plan}
use Rattle.block.specs.declared.event.Event.{Event}
use Rattle.rulebook.specs.Situation.{Kept}
use Rattle.rulebook.specs.Apply.{event, own_refusal, reached}
use Rattle.rulebook.specs.Names.{name}
use Rattle.aspects.specs.Aspects.{aspect}
use Rattle.signals.specs.Readings.{Told, reading, nothing_told}
use Rattle.records.specs.Plan.{plan}
use Rattle.records.specs.Situation.{codes_of, situation}
use Rattle.lists.specs.Refusal.{◌unless◌, ◌or_else◌, event_refusal}
use Rattle.paper.specs.Given.{Given, given}

-- ---- a plan
abbrev pub plan_told : Whole Plan → ℕ
plan_told no_form = 20
plan_told (accepted p) = plan_judged p

abbrev pub plan_refusal : List ℕ → ℕ
plan_refusal bytes = plan_told (whole plan bytes)

-- ---- a situation
abbrev pub situation_told : Whole Given → ℕ
situation_told no_form = 20
situation_told (accepted g) = judged g.plan g.situation

abbrev pub situation_refusal : List ℕ → List ℕ → ℕ
situation_refusal plan_bytes situation_bytes = situation_told (given plan_bytes situation_bytes)

-- ---- an event
abbrev pub event_in : List ℕ → Event
event_in bytes = event (get_or bytes 0 0) (get_or bytes 1 0)

-- no situation is ever longer
abbrev pub longest_situation : ℕ
longest_situation = 96

-- 1, 2, 3, 4, 24, then the event's own
abbrev pub tried_refusal : Plan → Kept → Event → ℕ → ℕ
tried_refusal p x e room = judged p x or_else event_refusal p e or_else 24 unless leb longest_situation room or_else own_refusal p x e

abbrev pub event_told : Whole Given → List ℕ → List ℕ → ℕ
event_told no_form e room = 20
event_told (accepted g) e room = 20 unless eqb (length e) 2 or_else tried_refusal g.plan g.situation (event_in e) (length room)

-- the situation after, as records
abbrev pub record_after : Plan → Kept → Event → List ℕ
record_after p x e = situation.written (codes_of (reached p x e))

abbrev pub records_after : Whole Given → List ℕ → List ℕ
records_after no_form e = []
records_after (accepted g) e = record_after g.plan g.situation (event_in e)

-- what the refusal names
abbrev pub name_of : Whole Given → List ℕ → ℕ → ℕ
name_of no_form e refusal = 0
name_of (accepted g) e refusal = name g.plan g.situation (event_in e) refusal

-- `refusal + 2^8 name + 2^16 length`
abbrev pub told_with : ℕ → ℕ → List ℕ → ℕ
told_with refusal name after = refusal + 256 * name + 65536 * (if eqb refusal 0 then length after else 0)

abbrev pub room_with : ℕ → List ℕ → List ℕ → List ℕ
room_with refusal after room = if eqb refusal 0 then laid after room else room

abbrev pub event_packed : Whole Given → List ℕ → List ℕ → ℕ
event_packed g e room = told_with (event_told g e room) (name_of g e (event_told g e room)) (records_after g e)

abbrev pub event_room : Whole Given → List ℕ → List ℕ → List ℕ
event_room g e room = room_with (event_told g e room) (records_after g e) room

-- ---- a reading: kind and argument
abbrev pub reading_told : Whole Given → List ℕ → Told
reading_told no_form r = nothing_told 20
reading_told (accepted g) r = if eqb (length r) 2 then reading g.plan g.situation (get_or r 0 0) (get_or r 1 0) else nothing_told 20

-- `refusal + 2^8 value`
abbrev pub packed : Told → ℕ
packed t = t.refusal + 256 * t.value

-- ---- aspects
-- the signals 1..n, then 129..128+n
abbrev pub signal_at : ℕ → ℕ → ℕ
signal_at n i = if ltb i n then 1 + i else 129 + (i - n)

-- the aspects of the first of them
unfoldable pub first_aspects : Plan → Kept → ℕ → List ℕ
first_aspects p x zero = []
first_aspects p x (suc i) = first_aspects p x i ++ (aspect p x (signal_at p.sections i) ∷ [])

abbrev pub all_aspects : Given → List ℕ
all_aspects g = first_aspects g.plan g.situation (g.plan.sections + g.plan.sections)

abbrev pub aspects_told : Whole Given → List ℕ → ℕ
aspects_told no_form room = 20
aspects_told (accepted g) room =
    judged g.plan g.situation or_else 24 unless leb (g.plan.sections + g.plan.sections) (length room)

-- 2n bytes: aspects of 1..n, then of 129..128+n
abbrev pub aspects_written : Whole Given → List ℕ
aspects_written no_form = []
aspects_written (accepted g) = all_aspects g

abbrev pub aspects_room : Whole Given → List ℕ → List ℕ
aspects_room g room = room_with (aspects_told g room) (aspects_written g) room
