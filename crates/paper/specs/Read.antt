-- What bytes are read as. "Every refusal returns its number and zeros."
use Rattle.std.specs.Prelude.{ℕ, false, List, [], eqb, if◌then◌else◌}
use Rattle.forms.specs.Whole.{Whole, refused as no_form, accepted, whole}
use Rattle.rulebook.specs.Situation.{fresh, with_link}
use Rattle.records.specs.Plan.{plan_of}
use Rattle.records.specs.Question.{Parts, question}
use Rattle.paper.specs.Question.{Question, question_of}
use Rattle.paper.specs.Refusal.{refusal_of}

-- the question, or its refusal
pub record Read : Type 0 where
  pub refusal : ℕ
  pub question : Question

abbrev pub zeros : Question
zeros = record { plan = plan_of (0, (0, 0)); situation = with_link false fresh; events = []; readings = []; length = 0 }

unfoldable pub refused : ℕ → Read
refused n = record { refusal = n; question = zeros }

unfoldable pub answered : Question → Read
answered q = if eqb (refusal_of q) 0 then record { refusal = 0; question = q } else refused (refusal_of q)

-- "20 a wrong mark, bytes missing or left over, an EV or RD count out of range", then what the question itself gives
abbrev pub read_as : Whole Parts → Read
read_as no_form = refused 20
read_as (accepted v) = answered (question_of v)

unfoldable pub read_of : List ℕ → Read
read_of bytes = read_as (whole question bytes)
