-- What bytes are read as: a question that is accepted, or zeros and the refusal. Assumes nothing.
use Rattle.std.specs.Prelude.{if◌then◌else◌}
use Prim.Native.Nat.{ℕ}
use mathlib.Core.Path.{◌≡◌, refl, ap, ◌∙◌}
use mathlib.Core.Bool.{Bool, true, false}
use mathlib.Core.List.{List}
use native.Mathlib.Omega.{arith}
use borrow.Author.Tests.{eqb-true}
use lib.Dec.{eqb}
use Rattle.forms.specs.Whole.{Whole, refused as no_form, accepted, whole}
use Rattle.records.specs.Question.{Parts, question}
use Rattle.paper.specs.Question.{Question, question_of}
use Rattle.paper.specs.Refusal.{refusal_of}
use Rattle.paper.specs.Read.{Read, refused, answered, read_as, read_of}

-- ---- by the form
pub no_form_is_20 : (bytes : List ℕ) → whole question bytes ≡ no_form → read_of bytes ≡ refused 20
unfolding read_of
no_form_is_20 bytes e = rw e

pub form_is_answered : (bytes : List ℕ) (v : Parts) → whole question bytes ≡ accepted v → read_of bytes ≡ answered (question_of v)
unfolding read_of
form_is_answered bytes v e = rw e

pub right_is_answered : (q : Question) → refusal_of q ≡ 0 → answered q ≡ record { refusal = 0; question = q }
unfolding answered
right_is_answered q z = rw z

-- ---- bytes that are accepted
pub record AcceptedBytes (bytes : List ℕ) : Type 0 where
  pub parts : Parts
  pub form : whole question bytes ≡ accepted parts
  pub right : refusal_of (question_of parts) ≡ 0

abbrev settled : Question → Bool → Read
settled q right = if right then record { refusal = 0; question = q } else refused (refusal_of q)

settled_right : (q : Question) (v : Bool) → eqb (refusal_of q) 0 ≡ v → (settled q v).refusal ≡ 0 → refusal_of q ≡ 0
unfolding refused
settled_right q true e h = eqb-true (refusal_of q) 0 e
settled_right q false e h = h

pub accepted_bytes : (bytes : List ℕ) → (read_of bytes).refusal ≡ 0 → AcceptedBytes bytes
unfolding read_of refused answered
accepted_bytes bytes h = by (whole question bytes) refl h
  where
    by : (w : Whole Parts) → whole question bytes ≡ w → (read_as w).refusal ≡ 0 → AcceptedBytes bytes
    by no_form e h = absurd (omega arith)
    by (accepted v) e h = record { parts = v; form = e; right = settled_right (question_of v) (eqb (refusal_of (question_of v)) 0) refl h }

pub read_question : (bytes : List ℕ) (a : AcceptedBytes bytes) → (read_of bytes).question ≡ question_of a.parts
read_question bytes a = ap (λ (r : Read). r.question) (form_is_answered bytes a.parts a.form ∙ right_is_answered (question_of a.parts) a.right)

pub read_is_accepted : (bytes : List ℕ) → (read_of bytes).refusal ≡ 0 → refusal_of (read_of bytes).question ≡ 0
read_is_accepted bytes ok = let a = accepted_bytes bytes ok in rw (read_question bytes a) a.right

-- ---- bytes that are not
settled_refused : (q : Question) (v : Bool) → ((settled q v).refusal ≡ 0 → ⊥) → settled q v ≡ refused (settled q v).refusal
unfolding refused
settled_refused q true h = absurd (h refl)
settled_refused q false h = refl

pub refused_bytes : (bytes : List ℕ) → ((read_of bytes).refusal ≡ 0 → ⊥) → read_of bytes ≡ refused (read_of bytes).refusal
unfolding read_of refused answered
refused_bytes bytes h = by (whole question bytes) h
  where
    by : (w : Whole Parts) → ((read_as w).refusal ≡ 0 → ⊥) → read_as w ≡ refused (read_as w).refusal
    by no_form h = refl
    by (accepted v) h = settled_refused (question_of v) (eqb (refusal_of (question_of v)) 0) h
