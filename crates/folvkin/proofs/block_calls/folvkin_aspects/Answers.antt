use mathlib.Core.Path.{refl, ◌∙◌}
use Rattle.folvkin.proofs.block_calls.folvkin_aspects.Goals as goal

pub returns-in_default-clause-value : goal.returns-in_default-clause-value
returns-in_default-clause-value c = rw (← c.in_default.ensures) refl

pub returns-in_default-clause-room_after : goal.returns-in_default-clause-room_after
returns-in_default-clause-room_after c = rw (← c.in_default.ensures) refl

pub returns-clause-value : goal.returns-clause-value
returns-clause-value c = rw (← c.in-Some.ensures) (c.told.ensures ∙ c.aspects_shown.ensures.value)

pub returns-clause-room_after : goal.returns-clause-room_after
returns-clause-room_after c = rw (← c.in-Some.ensures, ← c.aspects_shown.ensures.value) c.aspects_shown.ensures.room_after
