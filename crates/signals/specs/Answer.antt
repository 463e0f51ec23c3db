-- What a reading answers, as what is told: of a refusal its number and zero.
use Rattle.std.specs.Prelude.{ℕ, Result, Ok, Err}
use Rattle.block.specs.Refusals.{number}
use Rattle.block.specs.declared.refused.Refusal.{Refusal}
use Rattle.signals.specs.Readings.{Told, told, nothing_told}

abbrev pub answer : Result ℕ Refusal → Told
answer (Ok value) = told value
answer (Err refusal) = nothing_told (number refusal)
