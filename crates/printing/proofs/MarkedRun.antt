-- "Run by program: fresh, events SOBB A, COBB B, exit A normal, entry B; length 4; signal 1 green. Output, whole": the text of this paper, computed from
-- the definitions. So there is an accepted question, and its key is not empty. Assumes nothing.
use Rattle.std.proofs.Common.{◌≡◌, ℕ, List, [], ◌∷◌, refl}
use mathlib.Core.List.{flatten}
use Rattle.paper.specs.Read.{answered, read_of}
use Rattle.paper.specs.Refusal.{counts_in_range, refusal_of}
use Rattle.forms.specs.Whole.{whole}
use Rattle.records.specs.Plan.{plan}
use Rattle.records.specs.Situation.{situation, in_range, said, situation_of}
use Rattle.records.specs.Lists.{events, readings, answer_length, event_at}
use Rattle.records.specs.Question.{question}
use Rattle.lists.specs.Refusal.{event_refusal, events_refusal, listed, listed_twice, readings_in_range, lists_refusal}
use Rattle.rulebook.specs.Apply.{refusal_at, led_at, acted, stepped}
use Rattle.aspects.specs.Aspects.{shows}
use Rattle.signals.specs.Readings.{value_read}
use Rattle.rules.specs.RulesOf.{all_hold}
use Rattle.keylaws.specs.Key.{empty_if, through, in_turn, answers}
use Rattle.keytext.specs.Text.{spaced, line, lines, labelled}
use Rattle.keytext.specs.Decimal.{digits_in, decimal}
use Rattle.printing.specs.Printed.{printed}

-- the bytes of papers/marked-run.bin
pub paper : List ℕ
paper =
    76 ∷ 66 ∷ 4 ∷ 2 ∷ 83 ∷ 73 ∷ 1 ∷ 0 ∷ 0 ∷ 0 ∷ 0 ∷ 0 ∷ 0 ∷ 0 ∷ 0 ∷ 0 ∷ 0 ∷ 0 ∷ 0 ∷ 0 ∷ 0 ∷ 0 ∷ 0 ∷ 0
    ∷ 0 ∷ 69 ∷ 86 ∷ 4 ∷ 1 ∷ 0 ∷ 2 ∷ 1 ∷ 14 ∷ 0 ∷ 17 ∷ 1 ∷ 82 ∷ 68 ∷ 1 ∷ 1 ∷ 1 ∷ 2 ∷ 76 ∷ 78 ∷ 4 ∷ []

pub text : List ℕ
text =
    49 ∷ 32 ∷ 50 ∷ 32 ∷ 51 ∷ 10 ∷ 49 ∷ 32 ∷ 50 ∷ 32 ∷ 51 ∷ 32 ∷ 52 ∷ 10 ∷ 49 ∷ 32 ∷ 50 ∷ 32 ∷ 52 ∷ 32 ∷ 51 ∷ 10 ∷ 49 ∷ 32
    ∷ 52 ∷ 32 ∷ 50 ∷ 32 ∷ 51 ∷ 10 ∷ 52 ∷ 32 ∷ 49 ∷ 32 ∷ 50 ∷ 32 ∷ 51 ∷ 10 ∷ 116 ∷ 111 ∷ 116 ∷ 97 ∷ 108 ∷ 32 ∷ 53 ∷ 10 ∷ []

pub accepted : (read_of paper).refusal ≡ 0
unfolding paper read_of whole question plan situation events readings answer_length answered refusal_of counts_in_range situation_of in_range said lists_refusal events_refusal event_refusal listed listed_twice readings_in_range
accepted = refl

pub marked_run : printed paper ≡ text
unfolding paper text printed read_of whole question plan situation events readings answer_length answered refusal_of counts_in_range situation_of in_range said lists_refusal events_refusal event_refusal listed listed_twice readings_in_range event_at refusal_at led_at acted stepped shows value_read all_hold empty_if through in_turn answers spaced line lines labelled digits_in decimal flatten
marked_run = refl
