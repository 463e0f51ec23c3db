use Prim.Native.Nat.{ℕ}
use mathlib.Core.Path.{◌≡◌}
use mathlib.Core.Bool.{Bool}
use native.Mathlib.Omega.{arith}
use Rattle.situation.specs.Packed.{bit_of, set, unpacked, flagged}
use Rattle.situation.specs.declared.Situation.{Situation as Packed}
use Rattle.situation.specs.declared.flags.Flag.{Flag}
use Rattle.situation.specs.declared.flags.Flag.TheVariants.{Out, Inward, Afbli, Afble, Normal, Special, Entry, Bilc, Bslg, Reminder, Asks, OtherOut, OtherInward, OtherAsks, Link, Mark}
use Rattle.situation.proofs.FlagLaws.{at_flags, one}
use Rattle.situation.proofs.Situation.with.Goals as goal

as_said : (x : Packed) (f : Flag) (v : Bool) {r : ℕ} → r ≡ flagged x.flags (bit_of f) v → unpacked (at_flags x r) ≡ set f v (unpacked x)
as_said x Out v e = one x 0 v (omega arith) e
as_said x Inward v e = one x 1 v (omega arith) e
as_said x Afbli v e = one x 2 v (omega arith) e
as_said x Afble v e = one x 3 v (omega arith) e
as_said x Normal v e = one x 4 v (omega arith) e
as_said x Special v e = one x 5 v (omega arith) e
as_said x Entry v e = one x 6 v (omega arith) e
as_said x Bilc v e = one x 7 v (omega arith) e
as_said x Bslg v e = one x 8 v (omega arith) e
as_said x Reminder v e = one x 9 v (omega arith) e
as_said x Asks v e = one x 10 v (omega arith) e
as_said x OtherOut v e = one x 16 v (omega arith) e
as_said x OtherInward v e = one x 17 v (omega arith) e
as_said x OtherAsks v e = one x 26 v (omega arith) e
as_said x Link v e = one x 32 v (omega arith) e
as_said x Mark v e = one x 33 v (omega arith) e

pub returns : goal.returns
returns c = as_said c.args.self c.args.flag c.args.v c.flagged.ensures
