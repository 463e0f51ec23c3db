use Rattle.records.specs.Lists.{answer_length}
use Rattle.questions.proofs.write.put_length.Goals as goal

pub returns : goal.returns
unfolding answer_length
returns c = record { value = c.copy.ensures.count; room_after = c.copy.ensures.copied }
