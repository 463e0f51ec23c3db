-- `doubled`: what is left to double gives what was asked.
use mathlib.Core.Path.{◌≡◌}
use Prim.Native.Nat.{◌-◌, ◌*◌, ◌^◌}
use Rattle.numeric.proofs.scaled.doubled.Given as goal

abbrev pub invariant-loop-done : goal.invariant-loop-done
invariant-loop-done l = l.m * 2 ^ (l.k - l._done) ≡ l.n * 2 ^ l.k
