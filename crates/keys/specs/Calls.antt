-- The two calls: a part of a question's key, and a candidate's slot run.
use Rattle.std.specs.Prelude.{ℕ, Bool, false, List, length, eqb, leb, if◌then◌else◌}
use Rattle.keylaws.specs.Slots.{word_of, is_slot}
use Rattle.keylaws.specs.Continuation.{is_continuation}
use Rattle.keylaws.specs.Parts.{Part, handed, part_after}
use Rattle.keylaws.specs.Run.{Outcome, run}
use Rattle.rules.specs.RulesOf.{name_told}
use Rattle.paper.specs.Question.{Question}
use Rattle.paper.specs.Read.{Read}
use Rattle.keys.specs.Key.{rules}

-- ---- a part of the key: the refusal, and what the call leaves in the room and tells
pub record Fetch : Type 0 where
  pub refusal : ℕ
  pub part : Part

-- "Every refusal returns its number and zeros; .. lent memory keeps its values."
abbrev pub nothing : ℕ → List ℕ → Fetch
nothing refusal room = record { refusal = refusal; part = handed room 0 false }

abbrev pub given : Part → Fetch
given part = record { refusal = 0; part = part }

-- 22 continuation malformed, 24 room under six bytes, "22, 24" in this order
unfoldable pub part_of : Question → List ℕ → List ℕ → Fetch
part_of q after room =
    if is_continuation (rules q).events q.length after then
    (if leb 6 (length room) then given (part_after (rules q) q.length q.situation after room) else nothing 24 room)
    else nothing 22 room

-- the question's own refusals come first
abbrev pub fetched : Read → List ℕ → List ℕ → Fetch
fetched read after room = if eqb read.refusal 0 then part_of read.question after room else nothing read.refusal room

-- ---- a candidate's slot
-- the refusal of the question or of the slot; else the place within the slot and the refusal of the first refused event, with what that names, or zeros and
-- whether all readings hold
pub record Ran : Type 0 where
  pub refusal : ℕ
  pub place : ℕ
  pub event_refusal : ℕ
  pub name : ℕ
  pub holds : Bool

abbrev pub not_run : ℕ → Ran
not_run refusal = record { refusal = refusal; place = 0; event_refusal = 0; name = 0; holds = false }

-- "Both are results": stopped at an event, with what its refusal names, or at the end
abbrev pub told : Outcome → ℕ → Ran
told o name = record { refusal = 0; place = o.place; event_refusal = o.refusal; name = name; holds = o.holds }

-- 22 candidate's slot malformed; 255 and five zeros is a continuation only
unfoldable pub slot_run : Question → List ℕ → Ran
slot_run q slot =
    if is_slot (rules q).events q.length slot
    then told (run (rules q) q.situation (word_of slot)) (name_told q.plan q.events q.situation (word_of slot))
    else not_run 22

abbrev pub ran : Read → List ℕ → Ran
ran read slot = if eqb read.refusal 0 then slot_run read.question slot else not_run read.refusal
