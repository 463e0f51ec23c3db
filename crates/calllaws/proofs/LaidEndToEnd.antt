-- An accepted question's bytes are the plan's records, the situation's records and the rest, laid end to end; each is accepted by its own call, and
-- says the question's plan and situation. Assumes nothing.
use Prim.Native.Nat.{ℕ}
use mathlib.Core.Path.{◌≡◌, refl, sym, ap, subst, ◌∙◌}
use mathlib.Core.Bool.{true}
use mathlib.Core.List.{List, ◌++◌}
use lib.Dec.{T}
use Rattle.words.proofs.Tests.{holds_is}
use Rattle.forms.specs.Whole.{Whole, refused as no_form, accepted, whole}
use Rattle.forms.proofs.Whole as Whole
use Rattle.block.specs.Line.{is_plan}
use Rattle.rulebook.specs.Sound.{sound}
use Rattle.rulebook.specs.Judged.{judged}
use Rattle.rulebook.specs.Situation.{Kept}
use Rattle.block.specs.declared.line.Plan.{Plan}
use Rattle.block.specs.declared.event.Event.{Event}
use Rattle.block.specs.declared.reading.Reading.{Reading}
use Rattle.records.specs.Plan.{plan}
use Rattle.records.specs.Situation.{Codes, situation_of, situation}
use Rattle.records.specs.Lists.{events, readings, answer_length}
use Rattle.records.specs.Question.{Parts, question}
use Rattle.records.proofs.RecordLaws.{plan_law, situation_law, events_law, readings_law, answer_length_law}
use Rattle.records.proofs.PlanForms.{every_plan}
use Rattle.records.proofs.QuestionLaws.{written_is_read, one_form}
use Rattle.records.proofs.Lies.{fits}
use Rattle.paper.specs.Question.{Question, question_of}
use Rattle.paper.specs.Read.{answered, read_of}
use Rattle.paper.specs.Given.{Given, given_by, given}
use Rattle.paper.proofs.Accepted as Accepted
use Rattle.paper.proofs.ReadBytes.{AcceptedBytes, form_is_answered, accepted_bytes, read_question}
use Rattle.folvkin.specs.Block.{plan_refusal, situation_refusal}

pub record EndToEnd (bytes : List ℕ) : Type 0 where
  pub plan_records : List ℕ
  pub situation_records : List ℕ
  pub rest : List ℕ
  pub joined : bytes ≡ plan_records ++ (situation_records ++ rest)
  pub plan_accepted : plan_refusal plan_records ≡ 0
  pub situation_accepted : situation_refusal plan_records situation_records ≡ 0
  pub same : given plan_records situation_records ≡ accepted (record { plan = (read_of bytes).question.plan; situation = (read_of bytes).question.situation })

judged_right : (p : Plan) (x : Kept) → T (is_plan p) → T (sound p x) → judged p x ≡ 0
judged_right p x h k = rw (holds_is (is_plan p) h, holds_is (sound p x) k)

module _ (bytes : List ℕ) (a : AcceptedBytes bytes) where
  abbrev v : Parts
  v = a.parts

  plan_read : whole plan (plan.written v.0) ≡ accepted v.0
  plan_read = Whole.written_is_read plan_law.lawful v.0 (every_plan v.0)

  situation_read : whole situation (situation.written v.1.0) ≡ accepted v.1.0
  situation_read = Whole.written_is_read situation_law.lawful v.1.0 (fits bytes v a.form).situation

  both_given : given (plan.written v.0) (situation.written v.1.0) ≡ accepted (record { plan = v.0; situation = situation_of v.1.0 })
  unfolding given
  both_given = rw (plan_read, situation_read)

  right : Accepted.Accepted (question_of v)
  right = Accepted.accepted (question_of v) a.right

  pub parts_of_accepted : EndToEnd bytes
  unfolding question
  parts_of_accepted = record {
    plan_records = plan.written v.0;
    situation_records = situation.written v.1.0;
    rest = events.written v.1.1.0 ++ (readings.written v.1.1.1.0 ++ answer_length.written v.1.1.1.1);
    joined = sym (one_form bytes v a.form).1;
    plan_accepted = rw (plan_read, holds_is (is_plan v.0) right.plan);
    situation_accepted = rw both_given (judged_right v.0 (situation_of v.1.0) right.plan right.situation);
    same = both_given ∙ ap (λ (q : Question). accepted (record { plan = q.plan; situation = q.situation })) (sym (read_question bytes a));
  }

pub end_to_end : (bytes : List ℕ) → (read_of bytes).refusal ≡ 0 → EndToEnd bytes
end_to_end bytes ok = parts_of_accepted bytes (accepted_bytes bytes ok)

-- ---- and what is laid end to end is read as the question: plan and situation as the calls take them, then the records of events, readings and length
Said : Whole Given → Type 0
Said no_form = ⊥
Said (accepted g) = Unit

pub record Alone (plan_bytes situation_bytes : List ℕ) (g : Given) : Type 0 where
  pub plan_alone : whole plan plan_bytes ≡ accepted g.plan
  pub codes : Codes
  pub situation_alone : whole situation situation_bytes ≡ accepted codes
  pub saying : situation_of codes ≡ g.situation

plan_in : Given → Whole Given → Plan
plan_in d no_form = d.plan
plan_in d (accepted g) = g.plan

situation_in : Given → Whole Given → Kept
situation_in d no_form = d.situation
situation_in d (accepted g) = g.situation

pub alone : (plan_bytes situation_bytes : List ℕ) (g : Given) → given plan_bytes situation_bytes ≡ accepted g → Alone plan_bytes situation_bytes g
unfolding given Said plan_in situation_in
alone plan_bytes situation_bytes g h = by (whole plan plan_bytes) refl (whole situation situation_bytes) refl h
  where
    by : (w : Whole Plan) → whole plan plan_bytes ≡ w → (c : Whole Codes) → whole situation situation_bytes ≡ c → given_by w c ≡ accepted g → Alone plan_bytes situation_bytes g
    by no_form e c f k = absurd (subst Said (sym k) tt)
    by (accepted p) e no_form f k = absurd (subst Said (sym k) tt)
    by (accepted p) e (accepted c) f k =
        record { plan_alone = e ∙ ap (λ (w : Whole Given). accepted (plan_in g w)) k; codes = c; situation_alone = f; saying = ap (situation_in g) k }

module _ (plan_bytes situation_bytes events_bytes readings_bytes length-bytes : List ℕ) (g : Given) (es : List Event) (rs : List Reading) (n : ℕ)
    (both : given plan_bytes situation_bytes ≡ accepted g) (has-events : whole events events_bytes ≡ accepted es)
    (has-readings : whole readings readings_bytes ≡ accepted rs) (has-length : whole answer_length length-bytes ≡ accepted n) where
  abbrev bytes : List ℕ
  bytes = plan_bytes ++ (situation_bytes ++ (events_bytes ++ (readings_bytes ++ length-bytes)))

  pub laid_together : read_of bytes ≡ answered (record { plan = g.plan; situation = g.situation; events = es; readings = rs; length = n })
  unfolding question
  laid_together =
      let a = alone plan_bytes situation_bytes g both in
      let p1 = Whole.one_form plan_law.lawful plan_bytes g.plan a.plan_alone in
      let p2 = Whole.one_form situation_law.lawful situation_bytes a.codes a.situation_alone in
      let p3 = Whole.one_form events_law.lawful events_bytes es has-events in
      let p4 = Whole.one_form readings_law.lawful readings_bytes rs has-readings in
      let p5 = Whole.one_form answer_length_law.lawful length-bytes n has-length in
      let v : Parts = (g.plan, (a.codes, (es, (rs, n)))) in
      let writes : question.writes v ≡ true = rw (p1.0, p2.0, p3.0, p4.0, p5.0) refl in
      let written : question.written v ≡ bytes = rw (p1.1, p2.1, p3.1, p4.1, p5.1) refl in
      form_is_answered bytes v (sym (ap (whole question) written) ∙ written_is_read v writes)
      ∙ ap (λ (x : Kept). answered (record { plan = g.plan; situation = x; events = es; readings = rs; length = n })) a.saying
