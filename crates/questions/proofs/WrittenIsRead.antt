-- "Writing an accepted question .. and reading it back gives it again". Put together of the records' laws. Assumes nothing.
use mathlib.Core.Path.{◌≡◌, refl, ap, ◌∙◌}
use mathlib.Core.Bool.{true}
use mathlib.Core.List.{List, [], ◌∷◌}
use native.Mathlib.Omega.{arith}
use borrow.Author.Tests.{le-leb}
use lib.ListN.{length}
use Rattle.rulebook.specs.Situation.{Kept}
use Rattle.block.specs.declared.event.Event.{Event}
use Rattle.block.specs.declared.reading.Reading.{Reading}
use Rattle.forms.specs.Compose.{all}
use Rattle.forms.specs.Whole.{accepted, whole}
use Rattle.records.specs.Lists.{one_event, events, one_reading, readings, answer_length}
use Rattle.records.specs.Question.{question}
use Rattle.records.proofs.PlanForms.{every_plan}
use Rattle.records.proofs.CodesLaws.{codes_say, codes_fit}
use Rattle.records.proofs.QuestionLaws as QuestionLaws
use Rattle.paper.specs.Question.{Question, question_of, parts_of, written}
use Rattle.paper.specs.Refusal.{refusal_of}
use Rattle.paper.specs.Read.{answered, read_of}
use Rattle.paper.proofs.Accepted as Accepted
use Rattle.paper.proofs.ReadBytes.{form_is_answered, right_is_answered}

-- any event and any reading has its bytes
each_event_fits : (items : List Event) → all one_event.writes items ≡ true
each_event_fits [] = refl
each_event_fits (e ∷ items) = each_event_fits items

each_reading_fits : (items : List Reading) → all one_reading.writes items ≡ true
each_reading_fits [] = refl
each_reading_fits (r ∷ items) = each_reading_fits items

module _ (q : Question) (ok : refusal_of q ≡ 0) where
  form_fits : question.writes (parts_of q) ≡ true
  unfolding question events readings answer_length
  form_fits =
      let a = Accepted.accepted q ok in
      rw (every_plan q.plan, codes_fit q.plan q.situation a.plan a.situation, le-leb _ _ a.counts.0, le-leb _ _ a.counts.1, le-leb 0 (length q.readings) (omega arith), le-leb _ _ a.counts.2, each_event_fits q.events, each_reading_fits q.readings)

  pub written_is_whole : whole question (written q) ≡ accepted (parts_of q)
  unfolding written
  written_is_whole = QuestionLaws.written_is_read (parts_of q) form_fits

  same_question : question_of (parts_of q) ≡ q
  same_question =
      let a = Accepted.accepted q ok in
      ap (λ (x : Kept). record { plan = q.plan; situation = x; events = q.events; readings = q.readings; length = q.length }) (codes_say q.plan q.situation a.plan a.situation)

  pub written_is_read : read_of (written q) ≡ record { refusal = 0; question = q }
  written_is_read = form_is_answered (written q) (parts_of q) written_is_whole ∙ ap answered same_question ∙ right_is_answered q ok
