-- A reader need not believe this file: what the code finds of a question, its situation in words, its lists where they lie in its bytes.
use Rattle.std.specs.Prelude.{Result, Ok, Err}
use Rattle.block.specs.declared.refused.Refusal.{Refusal}
use Rattle.block.specs.Refusals.{number}
use Rattle.paper.specs.Listed.{question_listed}
use Rattle.paper.specs.Question.{Question}
use Rattle.paper.specs.Read.{Read, refused}
use Rattle.paper.specs.declared.question.Accepted.{Accepted}

-- the question that was found
abbrev pub asked : Accepted → Question
asked q = question_listed q.plan q.situation q.events.now q.readings.now q.length

abbrev pub found_as : Result Accepted Refusal → Read
found_as (Ok q) = record { refusal = 0; question = asked q }
found_as (Err r) = refused (number r)
