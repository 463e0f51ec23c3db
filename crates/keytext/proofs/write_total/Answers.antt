use native.Mathlib.Omega.{arith}
use Rattle.keytext.proofs.DecimalLaws.{decimal_short}
use Rattle.keytext.proofs.LineLaws.{labelled_length}
use Rattle.keytext.proofs.write_total.Goals as goal

pub write_labelled-requires : goal.write_labelled-requires
write_labelled-requires c = rw labelled_length (omega (arith, decimal_short 19 c.args.count (omega arith)))
