use mathlib.Core.Path.{refl}
use Rattle.keylaws.proofs.WalkGivesPart.{walk_gives_part}
use Rattle.engine.proofs.key_part.Goals as goal

pub returns : goal.returns
returns c =
    walk_gives_part _ _ _ c.requires.events_len_bound.1 _ _ _ _ c.requires.from_value refl c.explore.ensures.put
