use Rattle.records.proofs.InBytes.{event_at_place}
use Rattle.records.proofs.lists.event_at.Goals as goal

pub returns : goal.returns
returns c = event_at_place _ _ _ c.as_chunks.ensures.front c.requires.0 c.requires.1
