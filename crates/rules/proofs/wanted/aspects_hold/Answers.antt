use mathlib.Core.Path.{sym, ◌∙◌}
use native.Mathlib.Omega.{arith}
use borrow.Author.Tests.{eq-eqb, ne_eqb}
use Rattle.rules.proofs.ReadingSteps.{aspects_step, aspects_end}
use Rattle.rules.proofs.wanted.aspects_hold.Goals as goal
use Rattle.rules.proofs.wanted.aspects_hold.Goals.{else-reading-from-via-then-reading-from+else-from-reading, else-reading-from-via-else-reading-from}

pub returns-then-from-reading : goal.returns-then-from-reading
returns-then-from-reading c =
    let before = c.loop-reading.invariant in
    let next = c.in-Some.ensures.steps in
    let whole = sym before.left ∙ aspects_step _ _ _ _ _ next.1.0 (next.1.1 ∙ before.size) in
    sym (whole ∙ rw (eq-eqb _ 1 (c.if-reading-from.true ∙ c.from.ensures), ne_eqb _ _ (λ z. c.if-from-reading.true (c.from-then-reading-from.ensures ∙ c.aspect_of.ensures ∙ z))))

pub loop-reading-preserved : goal.loop-reading-preserved
loop-reading-preserved c =
    let before = c.loop-reading.invariant in
    let next = c.in-Some.ensures.steps in
    let whole = sym before.left ∙ aspects_step _ _ _ _ _ next.1.0 (next.1.1 ∙ before.size) in
    record {
      size = next.0 ∙ before.size;
      left = elim c.else-reading-from.branch [
        | else-reading-from-via-then-reading-from+else-from-reading w ↦
            sym (whole ∙ rw (eq-eqb _ 1 (w.if-reading-from.true ∙ c.from.ensures), eq-eqb _ _ (sym (w.from-then-reading-from.ensures ∙ w.aspect_of.ensures) ∙ w.if-from-reading.false)))
        | else-reading-from-via-else-reading-from w ↦ sym (whole ∙ rw (ne_eqb _ 1 (λ z. w.if-reading-from.false (z ∙ sym c.from.ensures))))
      ];
    }

pub returns : goal.returns
returns c =
    let before = c.loop-reading.invariant in
    let ended = c.in-None.ensures.steps in
    sym (sym before.left ∙ aspects_end _ _ _ (omega (arith, ended.1.0)))
