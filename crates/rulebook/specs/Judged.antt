-- "0 is accepted. 1 plan; 2 situation not sound"
use Rattle.std.specs.Prelude.{ℕ, if◌then◌else◌}
use Rattle.block.specs.Line.{is_plan}
use Rattle.rulebook.specs.Sound.{sound}
use Rattle.block.specs.declared.line.Plan.{Plan}
use Rattle.rulebook.specs.Situation.{Kept}

abbrev pub judged : Plan → Kept → ℕ
judged p x = if is_plan p then (if sound p x then 0 else 2) else 1
