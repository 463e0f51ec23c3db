-- LB or LC, as the code finds it. Assumes nothing.
use Rattle.std.specs.Prelude.{if◌then◌else◌}
use Prim.Native.Nat.{ℕ, ◌≤◌}
use mathlib.Core.Path.{◌≡◌, refl, sym, ap, ◌∙◌}
use mathlib.Core.Bool.{Bool, true, false, not}
use mathlib.Core.List.{List, [], ◌∷◌}
use native.Mathlib.Omega.{arith}
use borrow.Author.Tests.{eqb-true, eq-eqb, ne_eqb}
use lib.ListN.{length, drop, get_or, length-drop}
use lib.Seq.{get_or-drop}
use lib.Dec.{eqb}
use Rattle.forms.specs.Form.{nothing, found}
use Rattle.forms.specs.Choices.{always}
use Rattle.forms.proofs.Lettered.{letters_law}
use Rattle.forms.proofs.Sizes.{Bytes}
use Rattle.forms.proofs.Taken.{There, Spans, letters_there, letters_nothing}
use Rattle.records.specs.Plan.{LB, LC, plan_of, plan_body, of_2024, of_2012, plan}
use Rattle.records.specs.Sizes.{stands_with}
use Rattle.records.proofs.RecordLaws.{LB_law, LC_law}
use Rattle.records.proofs.Records.{LB_takes, LC_size}
use Rattle.records.proofs.Fronts.{stands_long, letters_stand, fixed_not, first_spans, second_spans, second_missing}
use Rattle.records.proofs.PlanForms.{LB_says, LC_says}

-- the bytes of LC after its letters: read exactly where the last is 1
last_read : (t : List ℕ) → 3 ≤ length t → (plan_body (always 1)).read t ≡ (if eqb (get_or t 2 0) 1 then found (plan_of (get_or t 0 0, (get_or t 1 0, 1))) (drop 3 t) else nothing)
last_read [] l = absurd (omega arith)
last_read (n ∷ []) l = absurd (omega arith)
last_read (n ∷ b ∷ []) l = absurd (omega arith)
last_read (n ∷ b ∷ e ∷ t) l = by (eqb e 1) refl
  where
    by : (v : Bool) → eqb e 1 ≡ v → (plan_body (always 1)).read (n ∷ b ∷ e ∷ t) ≡ (if eqb e 1 then found (plan_of (n, (b, 1))) t else nothing)
    by true h = rw (eqb-true e 1 h)
    by false h = rw h

module _ (s : List ℕ) (b : Bytes s) where
  pub LB_found : stands_with LB 2 s ≡ true → Spans plan s 4
  unfolding plan
  LB_found e = first_spans LB LB_law LB_takes of_2012 s b e

  module _ (e : stands_with LC 3 s ≡ true) where
    -- where LC stands, its last byte is the byte 4
    body_read : {v : Bool} → eqb (get_or s 4 0) 1 ≡ v → (plan_body (always 1)).read (drop 2 s) ≡ (if v then found (plan_of (get_or (drop 2 s) 0 0, (get_or (drop 2 s) 1 0, 1))) (drop 3 (drop 2 s)) else nothing)
    body_read h = last_read (drop 2 s) (omega (arith, stands_long LC 3 s e, length-drop 2 s)) ∙ rw (get_or-drop 2 s 2 0, h)

    LC_there : get_or s 4 0 ≡ 1 → There of_2012 5 s
    LC_there h =
        let l : 3 ≤ length (drop 2 s) = omega (arith, stands_long LC 3 s e, length-drop 2 s) in
        letters_there LC (plan_body (always 1)) s (letters_stand LC 3 s e) (record { what = plan_of (get_or (drop 2 s) 0 0, (get_or (drop 2 s) 1 0, 1)); is = body_read (eq-eqb _ _ h); long = l })

    -- it is a plan of 2012, which LB cannot say
    not_LB : (t : There of_2012 5 s) → of_2024.writes t.what ≡ false
    not_LB t = LB_says t.what ∙ ap not (sym (LC_says t.what) ∙ ((letters_law LC LC_law).lawful.one s t.what (drop 5 s) t.is).0)

  module _ (n : stands_with LB 2 s ≡ false) where
    pub LC_found : stands_with LC 3 s ≡ true → get_or s 4 0 ≡ 1 → Spans plan s 5
    unfolding plan
    LC_found e h = second_spans LB LB_law LB_takes of_2012 s b n (LC_there e h) (not_LB e (LC_there e h))

    -- "20 for another last byte in LC"
    pub LC_other : stands_with LC 3 s ≡ true → (get_or s 4 0 ≡ 1 → ⊥) → Spans plan s 0
    unfolding plan
    LC_other e h = second_missing LB LB_law LB_takes of_2012 s b n (letters_nothing LC (plan_body (always 1)) s (body_read e (ne_eqb _ _ h)))

    pub no_plan_found : stands_with LC 3 s ≡ false → Spans plan s 0
    unfolding plan
    no_plan_found e = second_missing LB LB_law LB_takes of_2012 s b n (fixed_not LC LC_law LC_size s e)
