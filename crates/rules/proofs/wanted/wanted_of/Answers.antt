use mathlib.Core.Path.{sym, ap, ◌∙◌}
use native.Mathlib.Omega.{arith}
use lib.ListN.{length, length-append}
use Rattle.rules.proofs.ReadingSteps.{want_step, want_end}
use Rattle.rules.proofs.wanted.wanted_of.Goals as goal

pub loop-i-preserved : goal.loop-i-preserved
loop-i-preserved c =
    let before = c.loop-i.invariant in
    let next = c.in-Some.ensures.steps in
    let front = next.0.1.0 in
    let three = next.0.1.1 ∙ before.size in
    record {
      size = next.0.0 ∙ before.size;
      taken = omega (arith, simp length-append at (ap length front));
      left = rw c.with_reading-w.ensures (sym (want_step _ _ _ _ _ front three (omega arith)) ∙ before.left);
    }

pub returns : goal.returns
returns c =
    let before = c.loop-i.invariant in
    let ended = c.in-None.ensures.steps in
    sym (want_end _ _ (omega (arith, ended.0.1.0))) ∙ before.left
