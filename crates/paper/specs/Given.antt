-- A plan and a situation that are given apart, each as the records of a question: exactly as they stand there.
use Rattle.std.specs.Prelude.{Bool, true, false, List, ℕ}
use Rattle.forms.specs.Whole.{Whole, refused as no_form, accepted, whole}
use Rattle.block.specs.declared.line.Plan.{Plan}
use Rattle.rulebook.specs.Situation.{Kept}
use Rattle.records.specs.Plan.{plan}
use Rattle.records.specs.Situation.{Codes, situation_of, situation}

pub record Given : Type 0 where
  pub plan : Plan
  pub situation : Kept

abbrev pub given_by : Whole Plan → Whole Codes → Whole Given
given_by no_form c = no_form
given_by (accepted p) no_form = no_form
given_by (accepted p) (accepted c) = accepted (record { plan = p; situation = situation_of c })

unfoldable pub given : List ℕ → List ℕ → Whole Given
given plan_bytes situation_bytes = given_by (whole plan plan_bytes) (whole situation situation_bytes)

abbrev pub there : Whole Given → Bool
there no_form = false
there (accepted g) = true
