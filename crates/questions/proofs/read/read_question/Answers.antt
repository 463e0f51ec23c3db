use native.Mathlib.Omega.{arith}
use Rattle.questions.proofs.ReadFound.{few_events, few_readings, items_read, zeros_read}
use Rattle.questions.proofs.read.read_question.Goals as goal

pub new-requires : goal.new-requires
new-requires c = (omega arith, (omega arith, few_events c.in_ok-found.found))

pub new-requires-2 : goal.new-requires-2
new-requires-2 c = (omega arith, (omega arith, few_readings c.in_ok-found.found))

pub returns : goal.returns
returns c =
    let a = c.in_ok-found.found in
    record {
      result_value = items_read a _ _ c.new.ensures c.new-2.ensures _ c.in_ok-found.ensures;
      events_value = zeros_read a _ _ c.new.ensures c.new-2.ensures;
    }
