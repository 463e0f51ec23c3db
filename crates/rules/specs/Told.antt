-- A reader need not believe this file: what the code tells of a candidate's run, as the outcome of a run, and what is named.
use Rattle.std.specs.Prelude.{ℕ, Bool, false, Result, Ok, Err}
use Rattle.block.specs.Refusals.{number}
use Rattle.keylaws.specs.Run.{Outcome}
use Rattle.rules.specs.declared.run.Stopped.{Stopped}

abbrev pub outcome : Result Bool Stopped → Outcome
outcome (Ok holds) = record { place = 0; refusal = 0; holds = holds }
outcome (Err stop) = record { place = stop.place; refusal = number stop.refusal; holds = false }

abbrev pub named : Result Bool Stopped → ℕ
named (Ok holds) = 0
named (Err stop) = stop.name
