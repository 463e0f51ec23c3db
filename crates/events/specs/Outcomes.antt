-- What is handed back of an event that is applied, in the words of the definitions.
use Rattle.std.specs.Prelude.{ℕ, Result, Ok, Err}
use Rattle.block.specs.Refusals.{number}
use Rattle.rulebook.specs.Apply.{Outcome, accepted, refused}
use Rattle.situation.specs.Packed.{unpacked}
use Rattle.situation.specs.declared.Situation.{Situation}
use Rattle.events.specs.declared.HandedBack.{HandedBack}

abbrev pub outcome : Result Situation HandedBack → Outcome
outcome (Ok next) = accepted (unpacked next)
outcome (Err back) = refused (number back.refused.refusal) (unpacked back.situation)

-- what its refusal names; an accepted event names nothing
abbrev pub named : Result Situation HandedBack → ℕ
named (Ok next) = 0
named (Err back) = back.refused.name
