-- LB or LC: LB can say the plans of 2024, LC those of 2012, so every plan has its record; how long it is. Assumes nothing.
use Rattle.std.specs.Prelude.{if◌then◌else◌}
use Prim.Native.Nat.{◌≤◌}
use mathlib.Core.Path.{◌≡◌, refl, ap, ◌∙◌}
use mathlib.Core.Bool.{Bool, true, false, not}
use native.Mathlib.Omega.{arith}
use lib.ListN.{length}
use lib.Dec.{eqb}
use Rattle.words.specs.Words.{◌or◌, flag}
use Rattle.block.specs.declared.line.Plan.{Plan}
use Rattle.records.specs.Plan.{of_2024, of_2012, plan}
use Rattle.records.specs.InBytes.{plan_size}
use Rattle.records.proofs.Fronts.{and_true}

is_2024 : (v : Bool) → eqb (flag v) 0 ≡ not v
is_2024 true = refl
is_2024 false = refl

pub is_2012 : (v : Bool) → eqb (flag v) 1 ≡ v
is_2012 true = refl
is_2012 false = refl

module _ (p : Plan) where
  -- a plan is its fields
  pub same_plan : {v : Bool} → v ≡ p.rules2012 → ◌≡◌ {A = Plan} (record { sections = p.sections; frontier = p.frontier; rules2012 = v }) p
  same_plan e = rw e

  -- "LB means 2024"
  pub LB_says : of_2024.writes p ≡ not p.rules2012
  LB_says = is_2024 p.rules2012

  -- LC "for the 2012 rules"
  pub LC_says : of_2012.writes p ≡ p.rules2012
  LC_says = and_true (eqb (flag p.rules2012) 1) ∙ is_2012 p.rules2012

  pub every_plan : plan.writes p ≡ true
  unfolding plan
  every_plan = rw (LB_says, LC_says) (by p.rules2012)
    where
      by : (v : Bool) → not v or v ≡ true
      by true = refl
      by false = refl

  -- which of the two it is
  pub plan_written_as : plan.written p ≡ (if p.rules2012 then of_2012.written p else of_2024.written p)
  unfolding plan
  plan_written_as = rw LB_says (by p.rules2012)
    where
      by : (v : Bool) → (if not v then of_2024.written p else of_2012.written p) ≡ (if v then of_2012.written p else of_2024.written p)
      by true = refl
      by false = refl

  pub plan_size_is : length (plan.written p) ≡ plan_size p
  unfolding plan_size
  plan_size_is = ap length plan_written_as ∙ by p.rules2012
    where
      by : (v : Bool) → length (if v then of_2012.written p else of_2024.written p) ≡ (if v then 5 else 4)
      by true = refl
      by false = refl

  pub plan_size_between : (4 ≤ plan_size p) × (plan_size p ≤ 5)
  unfolding plan_size
  plan_size_between = by p.rules2012
    where
      by : (v : Bool) → (4 ≤ (if v then 5 else 4)) × ((if v then 5 else 4) ≤ 5)
      by true = (omega arith, omega arith)
      by false = (omega arith, omega arith)

  pub plan_long_enough : 4 ≤ length (plan.written p)
  plan_long_enough = omega (arith, plan_size_is, plan_size_between.0)
