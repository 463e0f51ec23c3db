-- A reader need not believe this file: a question whose situation is in words, and whose lists are in bytes.
use Rattle.std.specs.Prelude.{ℕ, List}
use Rattle.block.specs.declared.line.Plan.{Plan}
use Rattle.situation.specs.declared.Situation.{Situation}
use Rattle.situation.specs.Packed.{unpacked}
use Rattle.records.specs.InBytes.{events_in, readings_in}
use Rattle.paper.specs.Question.{Question}

abbrev pub question_listed : Plan → Situation → List ℕ → List ℕ → ℕ → Question
question_listed plan situation events readings length = record {
  plan = plan;
  situation = unpacked situation;
  events = events_in events;
  readings = readings_in readings;
  length = length;
}
