-- `halved_down`: the halvings that are left give what was asked; below the lower side they change nothing in the quotient.
use mathlib.Core.Path.{◌≡◌}
use Prim.Native.Nat.{◌+◌, ◌-◌, ◌/◌, ◌^◌, ◌≤◌}
use Rattle.numeric.proofs.Stepping.{up}
use Rattle.numeric.proofs.scaled.halved_down.Given as goal

abbrev pub invariant-loop-at : goal.invariant-loop-at
invariant-loop-at l = record {
  low_left : l.low / 2 ^ (l.k - l._at) ≡ l.upper / 2 ^ (l.k - l.to);
  high_left : up l.high (2 ^ (l.k - l._at)) ≡ up l.upper (2 ^ (l.k - l.to));
  held : l.low ≤ 2 ^ 52;
  near : l.high ≤ l.low + 1;
}
