-- The law of each record, put together as its definition is. Assumes nothing.
use Prim.Native.Nat.{ℕ}
use mathlib.Core.Path.{◌≡◌, refl}
use mathlib.Core.Bool.{true}
use mathlib.Core.List.{[], ◌∷◌}
use borrow.Author.Tests.{eqb-true}
use lib.Dec.{eqb}
use Rattle.words.specs.Words.{flag}
use Rattle.forms.specs.Form.{Form}
use Rattle.forms.specs.Compose.{◌⊗◌, named}
use Rattle.forms.specs.Choices.{left_out, always}
use Rattle.forms.specs.Laws.{Lawful, Lettered}
use Rattle.forms.proofs.Reading.{both}
use Rattle.forms.proofs.Simple.{byte_law, left_out_law, always_law, named_law}
use Rattle.forms.proofs.Sequence.{sequence_law}
use Rattle.forms.proofs.Lettered.{letters_law}
use Rattle.forms.proofs.Choice.{choice_law}
use Rattle.forms.proofs.Lists.{counted_law}
use Rattle.forms.proofs.Fields.{section_law}
use Rattle.records.specs.Plan.{LB, LC, plan_of, plan_parts, plan_body, plan}
use Rattle.records.specs.Situation.{SI, SJ, codes_made, code_parts, body, pair, situation}
use Rattle.records.specs.Lists.{EV, RD, LN, event_of, event_parts, one_event, events, reading_of, reading_parts, one_reading, readings, answer_length}
use Rattle.records.proofs.PlanForms.{is_2012, same_plan}

infixr 30 ◌&◌
abbrev pub ◌&◌ : {A B : Type 0} {F : Form A} {G : Form B} → Lawful F → Lawful G → Lawful (F ⊗ G)
K & L = sequence_law K (λ _. L)

-- n, b, and an edition that is 0 or 1
plan_body_law : {edition : Form ℕ} → ((e : ℕ) → edition.writes e ≡ true → flag (eqb e 1) ≡ e) → Lawful edition → Lawful (plan_body edition)
plan_body_law h L = named_law plan_of plan_parts (λ v w. rw (h v.1.1 w)) (λ p. same_plan p (is_2012 p.rules2012)) (byte_law & byte_law & L)

pub LB_law : Lawful (plan_body (left_out 0))
LB_law = plan_body_law (λ e w. rw (eqb-true e 0 w)) (left_out_law 0)

pub LC_law : Lawful (plan_body (always 1))
LC_law = plan_body_law (λ e w. rw (eqb-true e 1 (both (eqb e 1) true w).0)) (always_law 1)

pub plan_law : Lettered (LB ∷ LC ∷ []) plan
unfolding plan
plan_law = choice_law (letters_law LB LB_law) (letters_law LC LC_law) refl

pub pair_law : Lawful pair
pair_law = byte_law & byte_law

pub codes_law : {each : Form ℕ} → Lawful each → Lawful (named codes_made code_parts (body each))
codes_law L =
    named_law codes_made code_parts (λ v w. refl) (λ c. refl)
    (byte_law & pair_law & pair_law & pair_law & pair_law & byte_law & byte_law & byte_law & byte_law & section_law 2 & section_law 2 & section_law 2 & L & L)

pub situation_law : Lettered (SI ∷ SJ ∷ []) situation
unfolding situation
situation_law = choice_law (letters_law SI (codes_law (left_out_law 0))) (letters_law SJ (codes_law byte_law)) refl

pub event_law : Lawful one_event
event_law = named_law event_of event_parts (λ v w. refl) (λ e. refl) (byte_law & byte_law)

pub events_law : Lettered (EV ∷ []) events
unfolding events
events_law = letters_law EV (counted_law event_law 1 12)

pub reading_law : Lawful one_reading
reading_law = named_law reading_of reading_parts (λ v w. refl) (λ r. refl) (byte_law & byte_law & byte_law)

pub readings_law : Lettered (RD ∷ []) readings
unfolding readings
readings_law = letters_law RD (counted_law reading_law 0 6)

pub answer_length_law : Lettered (LN ∷ []) answer_length
unfolding answer_length
answer_length_law = letters_law LN byte_law
