use mathlib.Core.Path.{sym, ◌∙◌}
use native.Mathlib.Omega.{arith}
use borrow.Author.Rules.{rules}
use Rattle.records.proofs.Fronts.{bytes_of, stands_long}
use lib.ListN.{get_or}
use lib.Dec.{eqb}
use Rattle.records.proofs.SituationTaken.{SI_found, SJ_found, SJ_both_zero, none_found, not_both, both_are}
use Rattle.records.proofs.situation.take_situation.Goals as goal
use Rattle.records.proofs.situation.take_situation.Goals.{else-stands-2-via-then-stands-2+else-s, else-stands-2-via-else-stands-2}

pub returns-then-stands : goal.returns-then-stands
returns-then-stands c = let h = SI_found _ (bytes_of _ (search rules)) (sym c.stands.ensures ∙ c.if-stands.true) in (h.0, omega arith, h.1)

pub bounds-s-21 : goal.bounds-s-21
bounds-s-21 c = omega (arith, stands_long _ 21 _ (sym c.stands-2.ensures ∙ c.if-stands-2.true))

pub bounds-s-22 : goal.bounds-s-22
bounds-s-22 c = omega (arith, stands_long _ 21 _ (sym c.stands-2.ensures ∙ c.if-stands-2.true))

pub returns-then-s : goal.returns-then-s
returns-then-s c =
    let s = c.args.s.now in
    let h = SJ_found s (bytes_of s (search rules)) (sym c.stands.ensures ∙ c.if-stands.false)
    (sym c.stands-2.ensures ∙ c.if-stands-2.true) (not_both (eqb (get_or s 21 0) 0) (eqb (get_or s 22 0) 0) c.if-s.true) in
    (h.0, omega arith, h.1)

pub returns : goal.returns
returns c =
    let s = c.args.s.now in
    let none = sym c.stands.ensures ∙ c.if-stands.false in
    elim c.else-stands-2.branch [
      | else-stands-2-via-then-stands-2+else-s w ↦
          sym (SJ_both_zero s (bytes_of s (search rules)) none (sym c.stands-2.ensures ∙ w.if-stands-2.true) (both_are (eqb (get_or s 21 0) 0) (eqb (get_or s 22 0) 0) w.if-s.false)).0
      | else-stands-2-via-else-stands-2 w ↦ sym (none_found s (bytes_of s (search rules)) none (sym c.stands-2.ensures ∙ w.if-stands-2.false)).0
    ]
