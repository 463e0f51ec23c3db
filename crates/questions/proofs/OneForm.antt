-- "each has one byte form": whatever bytes are read as a question are the bytes that it is written as. Put together of the records' laws.
-- Assumes nothing.
use Prim.Native.Nat.{ℕ}
use mathlib.Core.Path.{◌≡◌, refl, sym, ap, ◌∙◌}
use mathlib.Core.Bool.{Bool, true, false}
use mathlib.Core.List.{List}
use Rattle.words.proofs.Tests.{holds_is}
use Rattle.rulebook.specs.Sound.{sound}
use Rattle.block.specs.declared.line.Plan.{Plan}
use Rattle.records.specs.Situation.{Codes, in_range, situation_of}
use Rattle.records.specs.Question.{Parts, question}
use Rattle.records.proofs.NoSituation.{code_out_of_range}
use Rattle.records.proofs.CodesLaws.{codes_made_again}
use Rattle.records.proofs.QuestionLaws as QuestionLaws
use Rattle.paper.specs.Question.{question_of, written}
use Rattle.paper.specs.Read.{read_of}
use Rattle.paper.proofs.Accepted.{accepted}
use Rattle.paper.proofs.ReadBytes.{accepted_bytes, read_question}

-- the codes of a sound situation are in range
sound_in_range : (p : Plan) (c : Codes) → sound p (situation_of c) ≡ true → in_range c ≡ true
sound_in_range p c h = by (in_range c) refl
  where
    by : (v : Bool) → in_range c ≡ v → v ≡ true
    by true e = refl
    by false e = sym (code_out_of_range p c e) ∙ h

same_form : (v : Parts) → in_range v.1.0 ≡ true → written (question_of v) ≡ question.written v
unfolding written
same_form v h = ap (λ (c : Codes). question.written (v.0, (c, v.1.1))) (codes_made_again v.1.0 h)

pub one_form : (bytes : List ℕ) → (read_of bytes).refusal ≡ 0 → written (read_of bytes).question ≡ bytes
one_form bytes ok =
    let a = accepted_bytes bytes ok in
    let v = a.parts in
    let r = sound_in_range v.0 v.1.0 (holds_is _ (accepted (question_of v) a.right).situation) in
    ap written (read_question bytes a) ∙ same_form v r ∙ (QuestionLaws.one_form bytes v a.form).1
