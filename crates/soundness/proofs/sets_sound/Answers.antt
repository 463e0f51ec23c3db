-- The three sets at once, then the two exit signals. Assumes nothing.
use mathlib.Core.Path.{◌≡◌, sym, ◌∙◌}
use mathlib.Core.Bool.{true}
use Rattle.soundness.proofs.SoundLaws.{named, some_unnamed, exits_decide}
use Rattle.situation.specs.Packed.{unpacked}
use Rattle.soundness.proofs.sets_sound.Goals as goal

pub returns-then-not-sections_up_to : goal.returns-then-not-sections_up_to
returns-then-not-sections_up_to c =
    let a = c.args in
    some_unnamed a.plan (unpacked a.x) (rw (c.held-helda.ensures, c.held-heldb.ensures) at (sym c.sections_up_to.ensures ∙ c.if-not-sections_up_to.true))

pub returns : goal.returns
returns c =
    let a = c.args in
    let n : named a.plan (unpacked a.x) ≡ true = rw (c.held-helda.ensures, c.held-heldb.ensures) at (sym c.sections_up_to.ensures ∙ c.if-not-sections_up_to.false) in
    let exit = rw c.held-heldb.ensures at (sym c.has.ensures ∙ c.if-has.false) in
    rw (← exits_decide a.plan (unpacked a.x) n, exit, c.has-2.ensures, c.held-helda.ensures)
