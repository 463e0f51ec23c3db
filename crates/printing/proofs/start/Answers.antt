use Rattle.std.proofs.Common.{refl}
use Rattle.keylaws.specs.Continuation.{from_start}
use Rattle.printing.proofs.start.Goals as goal

pub returns : goal.returns
unfolding from_start
returns c = refl
