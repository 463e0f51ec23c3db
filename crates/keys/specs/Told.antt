-- What the two calls hand back, in the words of their definitions.
use Rattle.std.specs.Prelude.{ℕ, Bool, List, Result, Ok, Err}
use Rattle.block.specs.Refusals.{number}
use Rattle.block.specs.declared.refused.Refusal.{Refusal}
use Rattle.keylaws.specs.Parts.{handed}
use Rattle.rules.specs.declared.run.Stopped.{Stopped}
use Rattle.rules.specs.Told.{outcome, named}
use Rattle.slots.specs.declared.room.Part.{Part}
use Rattle.keys.specs.Calls.{Fetch, nothing, Ran, told, not_run}

-- of a call that fetches a part, and the room after it
abbrev pub left_by : Result Part Refusal → List ℕ → Fetch
left_by (Ok part) room = record { refusal = 0; part = handed room part.count part.more }
left_by (Err r) room = nothing (number r) room

-- of a candidate's slot
abbrev pub ran_as : Result (Result Bool Stopped) Refusal → Ran
ran_as (Ok run) = told (outcome run) (named run)
ran_as (Err r) = not_run (number r)
