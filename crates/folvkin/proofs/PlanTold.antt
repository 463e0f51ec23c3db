-- What is told of the bytes of a plan, by whether they are its record. Assumes nothing.
use Prim.Native.Nat.{ℕ}
use mathlib.Core.Path.{◌≡◌, refl, sym, ap, ◌∙◌}
use mathlib.Core.Bool.{true, false, false≢true}
use mathlib.Core.List.{List}
use Rattle.block.specs.Line.{plan_judged}
use Rattle.block.specs.declared.line.Plan.{Plan}
use Rattle.forms.specs.Whole.{Whole, refused as no_form, accepted, whole}
use Rattle.records.specs.Plan.{plan}
use Rattle.records.specs.InBytes.{plan_at}
use Rattle.records.specs.Sizes.{is_accepted}
use Rattle.records.proofs.InBytes.{plan_alone}
use Rattle.folvkin.specs.Block.{plan_told, plan_refusal}

pub no_plan_told : (s : List ℕ) → is_accepted (whole plan s) ≡ false → 20 ≡ plan_refusal s
no_plan_told s h = by (whole plan s) h
  where
    by : (w : Whole Plan) → is_accepted w ≡ false → 20 ≡ plan_told w
    by no_form h = refl
    by (accepted p) h = absurd (false≢true (sym h))

pub a_plan_told : (s : List ℕ) → is_accepted (whole plan s) ≡ true → {p : Plan} → p ≡ plan_at s → plan_judged p ≡ plan_refusal s
a_plan_told s h {p} e = by (whole plan s) refl h
  where
    by : (w : Whole Plan) → whole plan s ≡ w → is_accepted w ≡ true → plan_judged p ≡ plan_told w
    by no_form is h = absurd (false≢true h)
    by (accepted v) is h = ap plan_judged (e ∙ plan_alone s v is)
