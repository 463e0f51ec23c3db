-- A reader need not believe this file: what the code finds of a plan and a situation given apart.
use Rattle.std.specs.Prelude.{Option, None, Some}
use Rattle.block.specs.declared.line.Plan.{Plan}
use Rattle.situation.specs.declared.Situation.{Situation}
use Rattle.situation.specs.Packed.{unpacked}
use Rattle.forms.specs.Whole.{Whole, refused as no_form, accepted}
use Rattle.paper.specs.Given.{Given}

abbrev pub given_as : Option (Situation × Plan) → Whole Given
given_as None = no_form
given_as (Some (x, plan)) = accepted (record { plan = plan; situation = unpacked x })
