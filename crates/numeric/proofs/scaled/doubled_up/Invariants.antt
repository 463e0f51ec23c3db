-- `doubled_up`: the doublings that are left give what was asked.
use mathlib.Core.Path.{◌≡◌}
use Prim.Native.Nat.{◌-◌, ◌*◌, ◌^◌}
use Rattle.numeric.proofs.scaled.doubled_up.Given as goal

abbrev pub invariant-loop-at : goal.invariant-loop-at
invariant-loop-at l = l.upper * 2 ^ (l.to - l._at) ≡ l.n * 2 ^ (l.to - l.k)
