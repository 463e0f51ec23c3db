-- "A question is five records, each after its two letters as mark, in this order and then the end": LB or LC, SI or SJ, EV, RD, LN.
use Rattle.std.specs.Prelude.{ℕ, List}
use Rattle.block.specs.declared.line.Plan.{Plan}
use Rattle.block.specs.declared.event.Event.{Event}
use Rattle.block.specs.declared.reading.Reading.{Reading}
use Rattle.forms.specs.Form.{Form}
use Rattle.forms.specs.Compose.{◌⊗◌}
use Rattle.records.specs.Plan.{plan}
use Rattle.records.specs.Situation.{Codes, situation}
use Rattle.records.specs.Lists.{events, readings, answer_length}

abbrev pub Parts : Type 0
Parts = Plan × (Codes × (List Event × (List Reading × ℕ)))

unfoldable pub question : Form Parts
question = plan ⊗ situation ⊗ events ⊗ readings ⊗ answer_length
