use mathlib.Core.Path.{◌≡◌, ap, ◌∙◌}
use native.Mathlib.Omega.{arith}
use borrow.Author.Tests.{eq-eqb}
use Prim.Native.Nat.{ℕ, ◌*◌}
use Rattle.signals.specs.Readings.{told}
use Rattle.folvkin.specs.Block.{packed}
use Rattle.folvkin.proofs.block_calls.folvkin_reading.Goals as goal

value_told : (n : ℕ) → 256 * n ≡ packed (told n)
value_told n = omega arith

pub returns-in-Ok : goal.returns-in-Ok
returns-in-Ok c =
    rw (← c.in-Some.ensures, eq-eqb _ _ c.if-kind_and_argument-ne2.false)
    (ap (λ (n : ℕ). 256 * n) c.from-in-Ok.ensures ∙ value_told c.in-Ok.value ∙ ap packed c.in-Ok.ensures)
