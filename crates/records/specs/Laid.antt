-- A reader need not believe this file: what lies in the bytes of a question, as the code hands it out. proofs/Lies shows what can be read there.
use Rattle.std.specs.Prelude.{ℕ, ◌/◌, List, [], ◌∷◌, ◌++◌, length, Option, None, Some}
use Rattle.forms.specs.Compose.{each_written}
use Rattle.forms.specs.Whole.{Whole, refused, accepted}
use Rattle.records.specs.Plan.{plan}
use Rattle.records.specs.Situation.{situation}
use Rattle.records.specs.Lists.{EV, RD, LN, one_event, one_reading}
use Rattle.records.specs.Question.{Parts}
use Rattle.records.specs.declared.question.Laid.{Laid}

-- the bytes of the plan's record and of the situation's, those of the events and of the readings, and the length
pub record Bytes : Type 0 where
  pub plan : List ℕ
  pub situation : List ℕ
  pub events : List ℕ
  pub readings : List ℕ
  pub length : ℕ

abbrev pub bytes_laid : Laid → Bytes
bytes_laid l = record { plan = l.plan.now; situation = l.situation.now; events = l.events.now; readings = l.readings.now; length = l.length }

abbrev pub bytes_of_parts : Parts → Bytes
bytes_of_parts v = record {
  plan = plan.written v.0;
  situation = situation.written v.1.0;
  events = each_written one_event v.1.1.0;
  readings = each_written one_reading v.1.1.1.0;
  length = v.1.1.1.1;
}

abbrev pub laid_in : Whole Parts → Option Bytes
laid_in refused = None
laid_in (accepted v) = Some (bytes_of_parts v)

-- where each lies: the question's bytes, the records laid end to end
abbrev pub end_to_end : Bytes → List ℕ
end_to_end b =
    b.plan
    ++ (b.situation
    ++ ((EV.first ∷ EV.second ∷ length b.events / 2 ∷ b.events)
    ++ ((RD.first ∷ RD.second ∷ length b.readings / 3 ∷ b.readings)
    ++ (LN.first ∷ LN.second ∷ b.length ∷ []))))
