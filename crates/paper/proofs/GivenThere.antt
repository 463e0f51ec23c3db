-- A plan and a situation given apart, as the code finds them. Assumes nothing.
use Prim.Native.Nat.{ℕ}
use mathlib.Core.Path.{◌≡◌, refl, sym}
use mathlib.Core.Bool.{true, false, false≢true}
use mathlib.Core.List.{List}
use Rattle.block.specs.declared.line.Plan.{Plan}
use Rattle.rulebook.specs.Situation.{Kept}
use Rattle.forms.specs.Whole.{Whole, refused as no_form, accepted, whole}
use Rattle.records.specs.Plan.{plan}
use Rattle.records.specs.Situation.{Codes, situation_of, situation}
use Rattle.records.specs.InBytes.{plan_at, codes_at}
use Rattle.records.specs.Sizes.{is_accepted}
use Rattle.records.proofs.InBytes.{plan_alone, codes_alone}
use Rattle.paper.specs.Given.{given_by, given}

module _ (ps ss : List ℕ) where
  pub no_plan : is_accepted (whole plan ps) ≡ false → no_form ≡ given ps ss
  unfolding given
  no_plan h = by (whole plan ps) h
    where
      by : (w : Whole Plan) → is_accepted w ≡ false → no_form ≡ given_by w (whole situation ss)
      by no_form h = refl
      by (accepted p) h = absurd (false≢true (sym h))

  pub no_situation : is_accepted (whole situation ss) ≡ false → no_form ≡ given ps ss
  unfolding given
  no_situation h = by (whole plan ps) (whole situation ss) h
    where
      by : (w : Whole Plan) (z : Whole Codes) → is_accepted z ≡ false → no_form ≡ given_by w z
      by no_form z h = refl
      by (accepted p) no_form h = refl
      by (accepted p) (accepted c) h = absurd (false≢true (sym h))

  module _ {p : Plan} {x : Kept} (a : p ≡ plan_at ps) (b : x ≡ situation_of (codes_at ss)) where
    pub both_there : is_accepted (whole plan ps) ≡ true → is_accepted (whole situation ss) ≡ true → accepted (record { plan = p; situation = x }) ≡ given ps ss
    unfolding given
    both_there g h = by (whole plan ps) refl (whole situation ss) refl g h
      where
        by : (w : Whole Plan) → whole plan ps ≡ w → (z : Whole Codes) → whole situation ss ≡ z → is_accepted w ≡ true → is_accepted z ≡ true
            → accepted (record { plan = p; situation = x }) ≡ given_by w z
        by no_form e z f g h = absurd (false≢true g)
        by (accepted p) e no_form f g h = absurd (false≢true h)
        by (accepted p) e (accepted c) f g h = rw (a, b, plan_alone ps p e, codes_alone ss c f) refl
