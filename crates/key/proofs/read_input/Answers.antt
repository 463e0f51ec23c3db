-- Whatever follows so many bytes, the text is the same.
use Rattle.std.proofs.Common.{length, rules}
use Rattle.printing.proofs.EnoughInput.{enough_input}
use Rattle.key.proofs.read_input.Goals as goal

pub returns-clause-enough : goal.returns-clause-enough
returns-clause-enough c = enough_input (length c.args.input.now) (search rules)
