use mathlib.Core.Path.{ap}
use Rattle.situation.specs.Packed.{Flags, with_flags}
use Rattle.situation.proofs.Exchanged.{exchanged_flags}
use Rattle.situation.proofs.Situation.turned_round.Goals as goal

pub returns : goal.returns
returns c = let x = c.args.self in ap (λ (f : Flags). with_flags f x) (exchanged_flags x.flags c.exchanged.result c.exchanged.ensures)
