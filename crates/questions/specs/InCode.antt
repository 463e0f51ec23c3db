-- A question as the code has it: its situation in words, its lists in bytes. Of interest to who reads or writes questions as values.
use Rattle.std.specs.Prelude.{ℕ, ◌*◌, List, ◌++◌, length, take, drop, replicate, Result, Ok, Err}
use Rattle.block.specs.declared.refused.Refusal.{Refusal}
use Rattle.block.specs.Refusals.{number}
use Rattle.situation.specs.Packed.{unpacked}
use Rattle.records.specs.InBytes.{events_in, readings_in}
use Rattle.paper.specs.Question.{Question}
use Rattle.paper.specs.Read.{Read, refused}
use Rattle.questions.specs.declared.question.Items.{Items}
use Rattle.questions.specs.declared.question.Question.{Question as Packed}
use Rattle.questions.specs.Write.{Written}

-- bytes, and zeros up to so many
abbrev pub filled : ℕ → List ℕ → List ℕ
filled size s = s ++ drop (length s) (replicate size 0)

-- the bytes of as many items as are counted
abbrev pub counted : (width : ℕ) → Items width → List ℕ
counted width items = filled (width * items.count) (take (width * items.count) items.bytes)

-- what a question of the program asks
abbrev pub asked : Packed → Question
asked q = record {
  plan = q.plan;
  situation = unpacked q.situation;
  events = events_in (counted 2 q.events);
  readings = readings_in (counted 3 q.readings);
  length = q.length;
}

-- the question that was read, or its refusal and zeros
abbrev pub told : Result Packed Refusal → Read
told (Ok q) = record { refusal = 0; question = asked q }
told (Err r) = refused (number r)

-- how many bytes were written, or the refusal and 0
abbrev pub written_as : Result ℕ Refusal → Written
written_as (Ok n) = record { refusal = 0; length = n }
written_as (Err r) = record { refusal = number r; length = 0 }

-- "past a count, as zeros"
abbrev pub zeros_past : (width : ℕ) → Items width → Items width
zeros_past width items = record { count = items.count; bytes = filled 24 (take (width * items.count) items.bytes) }
