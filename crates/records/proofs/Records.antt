-- How many bytes each record takes, as the code finds it. Assumes nothing.
use Prim.Native.Nat.{ℕ, ◌+◌}
use mathlib.Core.Path.{◌≡◌}
use mathlib.Core.List.{List}
use lib.Dec.{eqb}
use Rattle.forms.specs.Form.{Form}
use Rattle.forms.specs.Compose.{byte, ◌⊗◌, section, named}
use Rattle.forms.specs.Choices.{left_out, always}
use Rattle.forms.specs.Laws.{Lawful}
use Rattle.forms.specs.Taken.{taken}
use Rattle.forms.proofs.Simple.{byte_law}
use Rattle.forms.proofs.Fields.{section_law}
use Rattle.forms.proofs.Sizes.{Bytes, Size, Takes, byte_takes, left_out_takes, only_size, section_takes, sequence_size, sequence_takes, named_size, named_takes}
use Rattle.records.specs.Plan.{plan_of, plan_parts, plan_body}
use Rattle.records.specs.Situation.{pair, body, codes_made, code_parts}
use Rattle.records.specs.Lists.{EV, RD, LN, event_of, event_parts, one_event, events, reading_of, reading_parts, one_reading, readings, answer_length}
use Rattle.records.specs.Sizes.{fixed, counted}
use Rattle.records.proofs.RecordLaws.{pair_law, event_law, reading_law}
use Rattle.records.proofs.Fronts.{fixed_taken, list_taken}

infixr 30 ◌&&◌
abbrev ◌&&◌ : {A B : Type 0} {m n : ℕ} {F : Form A} {G : Form B} → Lawful F × Takes m F → Takes n G → Takes (m + n) (F ⊗ G)
K && L = sequence_takes K.0 K.1 L

abbrev a_byte : Lawful byte × Takes 1 byte
a_byte = (byte_law, byte_takes)

abbrev a_pair : Lawful pair × Takes 2 pair
a_pair = (pair_law, a_byte && byte_takes)

abbrev a_field : Lawful (section 2) × Takes 2 (section 2)
a_field = (section_law 2, section_takes 2)

-- n and b of LB; of LC the byte more
pub LB_takes : Takes 2 (plan_body (left_out 0))
LB_takes = named_takes plan_of plan_parts (a_byte && a_byte && left_out_takes 0)

pub LC_size : Size 3 (plan_body (always 1))
LC_size = named_size plan_of plan_parts (sequence_size byte_takes.sized (sequence_size byte_takes.sized (only_size (λ e. eqb e 1) byte_takes.sized)))

-- the codes up to the sections held towards A, and two more of so many bytes each
abbrev codes_size : ℕ → ℕ
codes_size n = 1 + (2 + (2 + (2 + (2 + (1 + (1 + (1 + (1 + (2 + (2 + (2 + (n + n))))))))))))

pub codes_takes : {each : Form ℕ} {n : ℕ} → Lawful each → Takes n each → Takes (codes_size n) (named codes_made code_parts (body each))
codes_takes L Z =
    named_takes codes_made code_parts
    (a_byte && a_pair && a_pair && a_pair && a_pair && a_byte && a_byte && a_byte && a_byte && a_field && a_field && a_field && (L, Z) && Z)

event_takes : Takes 2 one_event
event_takes = named_takes event_of event_parts (a_byte && byte_takes)

pub events_taken : (s : List ℕ) → Bytes s → taken events s ≡ counted EV 1 12 2 s
unfolding events
events_taken s b = list_taken EV 1 12 event_law event_takes s b

reading_takes : Takes 3 one_reading
reading_takes = named_takes reading_of reading_parts (a_byte && a_byte && byte_takes)

pub readings_taken : (s : List ℕ) → Bytes s → taken readings s ≡ counted RD 0 6 3 s
unfolding readings
readings_taken s b = list_taken RD 0 6 reading_law reading_takes s b

pub length_taken : (s : List ℕ) → Bytes s → taken answer_length s ≡ fixed LN 1 s
unfolding answer_length
length_taken s b = fixed_taken LN byte_law byte_takes s b
