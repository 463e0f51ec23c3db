-- "20 .. bytes missing or left over": of bytes that are accepted, every part at the front and every lengthening is refused. Assumes nothing.
use Prim.Native.Nat.{ℕ}
use mathlib.Core.Path.{◌≡◌, sym, ap, ◌∙◌}
use mathlib.Core.List.{List, ◌∷◌, ◌++◌}
use Rattle.forms.specs.Whole.{whole}
use Rattle.records.specs.Question.{question}
use Rattle.records.proofs.QuestionLaws.{one_form, every_lengthening_is_refused, every_cut_is_refused}
use Rattle.paper.specs.Question.{Question, written}
use Rattle.paper.specs.Refusal.{refusal_of}
use Rattle.paper.specs.Read.{Read, refused, read_of}
use Rattle.paper.proofs.ReadBytes.{no_form_is_20, accepted_bytes}
use Rattle.questions.proofs.WrittenIsRead.{written_is_read}

module _ (bytes : List ℕ) (ok : (read_of bytes).refusal ≡ 0) where
  pub part_is_refused : (front : List ℕ) (b : ℕ) (cut : List ℕ) → front ++ (b ∷ cut) ≡ bytes → read_of front ≡ refused 20
  part_is_refused front b cut e =
      let a = accepted_bytes bytes ok in
      let o = one_form bytes a.parts a.form in
      no_form_is_20 front (every_cut_is_refused a.parts front b cut o.0 (e ∙ sym o.1))

  pub lengthening_is_refused : (b : ℕ) (more : List ℕ) → read_of (bytes ++ (b ∷ more)) ≡ refused 20
  lengthening_is_refused b more =
      let a = accepted_bytes bytes ok in
      let o = one_form bytes a.parts a.form in
      no_form_is_20 (bytes ++ (b ∷ more)) (ap (λ (s : List ℕ). whole question (s ++ (b ∷ more))) (sym o.1) ∙ every_lengthening_is_refused a.parts b more o.0)

-- so of an accepted question, as it is written
module _ (q : Question) (ok : refusal_of q ≡ 0) where
  written_accepted : (read_of (written q)).refusal ≡ 0
  written_accepted = ap (λ (r : Read). r.refusal) (written_is_read q ok)

  pub part_of_written_is_refused : (front : List ℕ) (b : ℕ) (cut : List ℕ) → front ++ (b ∷ cut) ≡ written q → read_of front ≡ refused 20
  part_of_written_is_refused = part_is_refused (written q) written_accepted

  pub lengthened_written_is_refused : (b : ℕ) (more : List ℕ) → read_of (written q ++ (b ∷ more)) ≡ refused 20
  lengthened_written_is_refused = lengthening_is_refused (written q) written_accepted
