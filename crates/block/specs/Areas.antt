-- A reader need not believe this file: a station's area as a set of sections, as the code takes it.
use Rattle.std.specs.Prelude.{ℕ, ◌≡◌, ltb}
use Rattle.words.specs.Words.{◌and◌}
use Rattle.sections.specs.Sections.{◌belongs_to◌}
use Rattle.block.specs.Line.{is_section, in_area}
use Rattle.block.specs.declared.line.Plan.{Plan}
use Rattle.block.specs.declared.line.Name.{Name}

-- m holds the sections of the area that a word has a bit for, and no others
abbrev pub AreaOf : Plan → Name → ℕ → Type 0
AreaOf p s m = (k : ℕ) → (k belongs_to m) ≡ (ltb k 64 and is_section p k and in_area p s k)
