-- A question has one byte form, and what is written is read: put together of the records' laws. Every part of a written question and every
-- lengthening is refused. Assumes nothing.
use Prim.Native.Nat.{ℕ}
use mathlib.Core.Path.{◌≡◌}
use mathlib.Core.Bool.{true}
use mathlib.Core.List.{List, [], ◌∷◌, ◌++◌}
use Rattle.forms.specs.Whole.{refused, accepted, whole}
use Rattle.forms.specs.Laws.{Lettered}
use Rattle.forms.proofs.Sequence.{◌then◌}
use Rattle.forms.proofs.Whole as Whole
use Rattle.records.specs.Plan.{LB, LC}
use Rattle.records.specs.Question.{Parts, question}
use Rattle.records.proofs.RecordLaws.{plan_law, situation_law, events_law, readings_law, answer_length_law}

pub question_law : Lettered (LB ∷ LC ∷ []) question
unfolding question
question_law =
    plan_law then λ _.
    situation_law then λ _.
    events_law then λ _.
    readings_law then λ _.
    answer_length_law

pub written_is_read : (v : Parts) → question.writes v ≡ true → whole question (question.written v) ≡ accepted v
written_is_read = Whole.written_is_read question_law.lawful

pub one_form : (bytes : List ℕ) (v : Parts) → whole question bytes ≡ accepted v → (question.writes v ≡ true) × (question.written v ≡ bytes)
one_form = Whole.one_form question_law.lawful

pub every_lengthening_is_refused : (v : Parts) (b : ℕ) (more : List ℕ) → question.writes v ≡ true → whole question (question.written v ++ (b ∷ more)) ≡ refused
every_lengthening_is_refused = Whole.lengthening_is_refused question_law.lawful

pub every_cut_is_refused : (v : Parts) (front : List ℕ) (b : ℕ) (cut : List ℕ) → question.writes v ≡ true → front ++ (b ∷ cut) ≡ question.written v → whole question front ≡ refused
every_cut_is_refused = Whole.part_is_refused question_law.lawful
