use native.Mathlib.Omega.{arith}
use mathlib.Core.Path.{sym}
use Rattle.records.proofs.Fronts.{short_stands, long_stands}
use Rattle.records.proofs.form.stands.Goals as goal

pub returns-in_default : goal.returns-in_default
returns-in_default c = sym (short_stands _ _ _ (omega arith))

pub returns : goal.returns
returns c = long_stands _ _ _ (omega arith)
