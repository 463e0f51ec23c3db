-- Assumes nothing.
use mathlib.Core.Path.{◌≡◌, refl, sym, ap, ◌∙◌}
use mathlib.Core.Bool.{Bool, true, false, not}
use Rattle.std.specs.Prelude.{if◌then◌else◌, Result, Ok, Err}
use Rattle.block.specs.declared.refused.Refusal.{Refusal}
use Rattle.block.specs.declared.refused.Refusal.TheVariants.{OutOfRange}
use Rattle.std.proofs.lemmas.Result.{err_from_is_err_and}
use Rattle.signals.specs.CodesRead.{kind_number}
use Rattle.signals.specs.Readings.{told}
use Rattle.signals.proofs.CodesRead.{kind_is, no_kind}
use Rattle.signals.proofs.readings.reading.Goals as goal

taken : (v : Bool) → ◌≡◌ {A = Result (Unit {0}) Refusal} (Ok tt) (if not v then Err OutOfRange else Ok tt) → v ≡ true
taken true e = refl
taken false e = cc

pub returns-in_err-kind : goal.returns-in_err-kind
returns-in_err-kind c =
    let none = no_kind c.args.plan c.args.kind c.args.arg _ c.in_err-kind.ensures in
    let p = err_from_is_err_and c.from_residual-in_err-kind.result c.from_residual-in_err-kind.ensures.1 in
    rw (p.1, p.2, none.0, ← c.in_ok-judged.ensures, none.1)

pub returns : goal.returns
returns c =
    let is : kind_number c.in_ok-kind.kind ≡ c.args.kind = kind_is _ _ c.in_ok-kind.ensures in
    rw (← c.in_ok-judged.ensures, ← is, sym c.takes.ensures ∙ taken _ c.in_ok-refuse_if.ensures) (ap told c.value.ensures)
