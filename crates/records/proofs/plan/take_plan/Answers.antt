use mathlib.Core.Path.{sym, ◌∙◌}
use native.Mathlib.Omega.{arith}
use borrow.Author.Rules.{rules}
use Rattle.records.proofs.Fronts.{bytes_of, stands_long}
use Rattle.records.proofs.PlanTaken.{LB_found, LC_found, LC_other, no_plan_found}
use Rattle.records.proofs.plan.take_plan.Goals as goal
use Rattle.records.proofs.plan.take_plan.Goals.{else-stands-2-via-then-stands-2+else-s-eq-RULES_2012, else-stands-2-via-else-stands-2}

pub returns-then-stands : goal.returns-then-stands
returns-then-stands c = let h = LB_found _ (bytes_of _ (search rules)) (sym c.stands.ensures ∙ c.if-stands.true) in (h.0, omega arith, h.1)

pub bounds-s-4 : goal.bounds-s-4
bounds-s-4 c = omega (arith, stands_long _ 3 _ (sym c.stands-2.ensures ∙ c.if-stands-2.true))

pub returns-then-s-eq-RULES_2012 : goal.returns-then-s-eq-RULES_2012
returns-then-s-eq-RULES_2012 c =
    let h = LC_found _ (bytes_of _ (search rules)) (sym c.stands.ensures ∙ c.if-stands.false) (sym c.stands-2.ensures ∙ c.if-stands-2.true) c.if-s-eq-RULES_2012.true in
    (h.0, omega arith, h.1)

pub returns : goal.returns
returns c =
    let s = c.args.s.now in
    let none = sym c.stands.ensures ∙ c.if-stands.false in
    elim c.else-stands-2.branch [
      | else-stands-2-via-then-stands-2+else-s-eq-RULES_2012 w ↦ sym (LC_other s (bytes_of s (search rules)) none (sym c.stands-2.ensures ∙ w.if-stands-2.true) w.if-s-eq-RULES_2012.false).0
      | else-stands-2-via-else-stands-2 w ↦ sym (no_plan_found s (bytes_of s (search rules)) none (sym c.stands-2.ensures ∙ w.if-stands-2.false)).0
    ]
