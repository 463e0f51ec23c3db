-- A question has at most 79 bytes, as many as its five records have one after the other; whatever is longer has "bytes .. left over": 20.
-- Assumes nothing.
use Prim.Native.Nat.{ℕ, ◌+◌, ◌≤◌, ◌<◌}
use mathlib.Core.Path.{◌≡◌}
use mathlib.Core.List.{List}
use native.Mathlib.Omega.{arith}
use lib.ListN.{length}
use Rattle.forms.specs.Form.{Form}
use Rattle.forms.specs.Compose.{byte, ◌⊗◌}
use Rattle.forms.proofs.Simple.{byte_law, left_out_law}
use Rattle.forms.proofs.Sizes.{byte_takes, left_out_takes}
use Rattle.forms.proofs.Bounded.{Bounded, size_bounded, sequence_bounded, letters_bounded, counted_bounded, named_bounded, choice_bounded, accepted_bounded, longer_is_refused}
use Rattle.records.specs.Plan.{LB, LC, plan}
use Rattle.records.specs.Situation.{SI, SJ, situation}
use Rattle.records.specs.Lists.{EV, RD, LN, event_of, event_parts, events, reading_of, reading_parts, readings, answer_length}
use Rattle.records.specs.Question.{question}
use Rattle.records.proofs.Records.{LB_takes, LC_size, codes_takes}
use Rattle.records.proofs.QuestionLaws.{question_law}
use Rattle.paper.specs.Read.{refused, read_of}
use Rattle.paper.proofs.ReadBytes.{no_form_is_20, accepted_bytes}

infixr 30 ◌&◌
abbrev ◌&◌ : {A B : Type 0} {m n : ℕ} {F : Form A} {G : Form B} → Bounded m F → Bounded n G → Bounded (m + n) (F ⊗ G)
Y & Z = sequence_bounded Y (λ _. Z)

a_byte : Bounded 1 byte
a_byte = size_bounded byte_takes.sized

plan_bounded : Bounded 5 plan
unfolding plan
plan_bounded = choice_bounded (omega arith) (letters_bounded LB (size_bounded LB_takes.sized)) (letters_bounded LC (size_bounded LC_size))

situation_bounded : Bounded 23 situation
unfolding situation
situation_bounded =
    choice_bounded (omega arith)
    (letters_bounded SI (size_bounded (codes_takes (left_out_law 0) (left_out_takes 0)).sized))
    (letters_bounded SJ (size_bounded (codes_takes byte_law byte_takes).sized))

events_bounded : Bounded 27 events
unfolding events
events_bounded = letters_bounded EV (counted_bounded (named_bounded event_of event_parts (a_byte & a_byte)) 1 12)

readings_bounded : Bounded 21 readings
unfolding readings
readings_bounded = letters_bounded RD (counted_bounded (named_bounded reading_of reading_parts (a_byte & a_byte & a_byte)) 0 6)

length_bounded : Bounded 3 answer_length
unfolding answer_length
length_bounded = letters_bounded LN a_byte

pub question_bounded : Bounded 79 question
unfolding question
question_bounded = plan_bounded & situation_bounded & events_bounded & readings_bounded & length_bounded

pub at_most_79_bytes : (bytes : List ℕ) → (read_of bytes).refusal ≡ 0 → length bytes ≤ 79
at_most_79_bytes bytes ok = let a = accepted_bytes bytes ok in accepted_bounded question_law.lawful question_bounded bytes a.parts a.form

pub longer_than_79_is_refused : (bytes : List ℕ) → 79 < length bytes → read_of bytes ≡ refused 20
longer_than_79_is_refused bytes h = no_form_is_20 bytes (longer_is_refused question_law.lawful question_bounded bytes h)
