-- The letters of a plan say its edition (02, Req 05). Assumes nothing.
use Rattle.std.specs.Prelude.{if◌then◌else◌}
use mathlib.Core.Path.{◌≡◌, refl, sym, ap, ◌∙◌}
use mathlib.Core.Bool.{Bool, true, false}
use borrow.Author.Tests.{ne_eqb}
use Rattle.forms.specs.Compose.{stands}
use Rattle.forms.specs.Whole.{whole}
use Rattle.forms.proofs.Whole as Whole
use Rattle.records.specs.Plan.{LB, LC, of_2024, of_2012, plan}
use Rattle.records.specs.Question.{question}
use Rattle.records.specs.Laws.{LBMeans2024, LCMeans2012, OtherLastByte, EditionByLetters}
use Rattle.records.proofs.RecordLaws.{plan_law}
use Rattle.records.proofs.PlanForms.{plan_written_as}

pub lb_means_2024 : LBMeans2024
unfolding whole plan
lb_means_2024 n b = refl

pub lc_means_2012 : LCMeans2012
unfolding whole plan
lc_means_2012 n b = refl

pub other_last_byte : OtherLastByte
unfolding whole plan question
other_last_byte n b last h = (rw (ne_eqb last 1 h), λ rest. rw (ne_eqb last 1 h))

pub edition_by_letters : EditionByLetters
edition_by_letters bytes p h =
    ap (stands (if p.rules2012 then LC else LB)) (sym (Whole.one_form plan_law.lawful bytes p h).1 ∙ plan_written_as p) ∙ by p.rules2012
  where
    by : (v : Bool) → stands (if v then LC else LB) (if v then of_2012.written p else of_2024.written p) ≡ true
    by true = refl
    by false = refl
