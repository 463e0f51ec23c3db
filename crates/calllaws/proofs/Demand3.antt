-- Demand 3 over the bytes of `folvkin_key`: the calls fetch the key, and the key is exactly the right sequences, in order, each once. Assumes nothing.
use Rattle.paper.proofs.ReadBytes.{read_is_accepted}
use Rattle.keys.specs.Key.{question_in}
use Rattle.calllaws.specs.Laws.{Demand3}
use Rattle.calllaws.proofs.RightSequences.{complete}
use Rattle.calllaws.proofs.KeyFetched.{fetches}

pub demand_3 : Demand3
demand_3 question ok = (complete (question_in question) (read_is_accepted question ok), fetches question ok)
