use mathlib.Core.Path.{◌∙◌}
use Rattle.lists.proofs.RightLists.{by_both}
use Rattle.lists.proofs.event_refusal.Goals as goal

pub returns : goal.returns
returns c = c.bytes_refusal.ensures ∙ by_both c.args.plan c.args.event
