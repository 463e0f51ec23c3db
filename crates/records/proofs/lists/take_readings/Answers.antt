use borrow.Author.Rules.{rules}
use Rattle.records.proofs.Fronts.{bytes_of}
use Rattle.records.proofs.Records.{readings_taken}
use Rattle.records.proofs.lists.take_readings.Goals as goal

pub returns : goal.returns
returns c = let s = c.args.s.now in rw (readings_taken s (bytes_of s (search rules))) c.counted.ensures
