-- A question, as its records say it: the permitted events, the readings that an answer must lead to, and how many events an answer may have.
use Rattle.std.specs.Prelude.{ℕ, List}
use Rattle.block.specs.declared.line.Plan.{Plan}
use Rattle.block.specs.declared.event.Event.{Event}
use Rattle.block.specs.declared.reading.Reading.{Reading}
use Rattle.rulebook.specs.Situation.{Kept}
use Rattle.records.specs.Situation.{codes_of, situation_of}
use Rattle.records.specs.Question.{Parts, question}

pub record Question : Type 0 where
  pub plan : Plan
  pub situation : Kept
  pub events : List Event
  pub readings : List Reading
  pub length : ℕ

abbrev pub question_of : Parts → Question
question_of (p, (c, (es, (rs, n)))) = record { plan = p; situation = situation_of c; events = es; readings = rs; length = n }

abbrev pub parts_of : Question → Parts
parts_of q = (q.plan, (codes_of q.situation, (q.events, (q.readings, q.length))))

-- the byte form of a question
unfoldable pub written : Question → List ℕ
written q = question.written (parts_of q)
