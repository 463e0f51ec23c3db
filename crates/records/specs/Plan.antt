-- "LB, n, b." 02, Req 05: "Record LC is LB with one byte more, always 1, for the 2012 rules; LB means 2024." "20 for another last byte in LC."
use Rattle.std.specs.Prelude.{ℕ, eqb}
use Rattle.words.specs.Words.{flag}
use Rattle.block.specs.declared.line.Plan.{Plan}
use Rattle.forms.specs.declared.Letters.{Letters}
use Rattle.forms.specs.Form.{Form}
use Rattle.forms.specs.Compose.{byte, ◌⊗◌, letters, named}
use Rattle.forms.specs.Choices.{left_out, always, ◌or_else◌}

abbrev pub LB : Letters
LB = record { first = 76; second = 66 }

abbrev pub LC : Letters
LC = record { first = 76; second = 67 }

-- n, b, and 1 "for the 2012 rules", else 0
abbrev pub PlanParts : Type 0
PlanParts = ℕ × (ℕ × ℕ)

abbrev pub plan_of : PlanParts → Plan
plan_of (n, (b, e)) = record { sections = n; frontier = b; rules2012 = eqb e 1 }

abbrev pub plan_parts : Plan → PlanParts
plan_parts p = (p.sections, (p.frontier, flag p.rules2012))

-- the bytes in their order; the edition, the last one, as the record has it
abbrev pub plan_body : Form ℕ → Form Plan
plan_body edition = named plan_of plan_parts (byte ⊗ byte ⊗ edition)

-- "LB means 2024"
abbrev pub of_2024 : Form Plan
of_2024 = letters LB (plan_body (left_out 0))

-- "LC is LB with one byte more, always 1, for the 2012 rules"; another last byte is read as nothing: 20
abbrev pub of_2012 : Form Plan
of_2012 = letters LC (plan_body (always 1))

unfoldable pub plan : Form Plan
plan = of_2024 or_else of_2012
