use mathlib.Core.Path.{ap, ◌∙◌}
use Rattle.rulebook.specs.Situation.{kept_from}
use Rattle.rulebook.specs.Table.{Occupied}
use Rattle.rulebook.specs.Apply.{leads, led_at}
use Rattle.events.proofs.occupied_at.Goals as goal

pub returns : goal.returns
unfolding led_at
returns c =
    let a = c.args in
    c.seen_from.ensures ∙ ap (kept_from a.at.own) (c.occupied.ensures ∙ ap (leads Occupied a.at) c.seen_from-seen.ensures)
