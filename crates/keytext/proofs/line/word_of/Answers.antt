use Rattle.std.proofs.Common.{arith}
use Rattle.keytext.proofs.WordLaws.{least_places}
use Rattle.keytext.proofs.line.word_of.Goals as goal

pub returns-clause-word : goal.returns-clause-word
returns-clause-word c = least_places c.args.slot.now _ c.told-slot (omega arith)
