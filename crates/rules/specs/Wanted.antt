-- Nothing here has to be believed: what the readings of a question ask, put together before any situation is tried, from their bytes. That all
-- readings hold exactly where it is met is proved.
use Rattle.std.specs.Prelude.{ℕ, max, ◌≡◌, Bool, true, List, [], ◌∷◌, length, eqb, if◌then◌else◌}
use Rattle.words.specs.Words.{◌and◌}
use Rattle.sections.specs.Sections.{none, ◌belongs_to◌}
use Rattle.sections.specs.Sets.{both}
use Rattle.rulebook.specs.Situation.{Kept}
use Rattle.block.specs.declared.line.Plan.{Plan}
use Rattle.block.specs.declared.reading.Reading.{Reading}
use Rattle.block.specs.Line.{is_plan}
use Rattle.situation.specs.Packed.{unpacked}
use Rattle.situation.specs.declared.Situation.{Situation as Packed}
use Rattle.situation.specs.CodeSets.{own_codes, other_codes, for_value}
use Rattle.aspects.specs.Aspects.{aspect}
use Rattle.signals.specs.CodesRead.{of_station, codes_where}
use Rattle.signals.specs.Readings.{line_read}
use Rattle.rules.specs.declared.wanted.Wanted.{Wanted}

-- the line: 0 free, 1 not
unfoldable pub where_line : ℕ → ℕ
where_line = for_value 1 2 none

-- ---- readings put together
abbrev pub anything : Wanted
anything = record { own = 0xFFFFFFFFFFFFFFFF; other = 0xFFFFFFFFFFFFFFFF; line = 3; aspects = 0 }

abbrev pub with_own : ℕ → Wanted → Wanted
with_own codes w = record { own = both w.own codes; other = w.other; line = w.line; aspects = w.aspects }

abbrev pub with_other : ℕ → Wanted → Wanted
with_other codes w = record { own = w.own; other = both w.other codes; line = w.line; aspects = w.aspects }

abbrev pub with_codes : ℕ → ℕ → Wanted → Wanted
with_codes arg codes w = if eqb arg 1 then with_other codes w else with_own codes w

abbrev pub with_line : ℕ → Wanted → Wanted
with_line values w = record { own = w.own; other = w.other; line = both w.line values; aspects = w.aspects }

-- the first aspect's reading, and how many bytes there are from it on
abbrev pub with_aspect : ℕ → Wanted → Wanted
with_aspect left w = record { own = w.own; other = w.other; line = w.line; aspects = max w.aspects left }

-- a reading more, the first of so many bytes
abbrev pub with_reading : ℕ → ℕ → ℕ → ℕ → Wanted → Wanted
with_reading kind arg value left w =
    if eqb kind 1 then with_aspect left w else
    if of_station kind then with_codes arg (codes_where kind value) w else
    with_line (where_line value) w

unfoldable pub with_readings : Wanted → List ℕ → Wanted
with_readings w [] = w
with_readings w (kind ∷ []) = w
with_readings w (kind ∷ arg ∷ []) = w
with_readings w (kind ∷ arg ∷ value ∷ readings) = with_readings (with_reading kind arg value (length (kind ∷ arg ∷ value ∷ readings)) w) readings

abbrev pub wanted_of : List ℕ → Wanted
wanted_of readings = with_readings anything readings

-- the readings in these bytes are put together, of a question whose plan is judged
abbrev pub Asked : Plan → Wanted → List ℕ → Type 0
Asked p w readings = (is_plan p ≡ true) × (w ≡ wanted_of readings)

-- ---- whether a situation is what they ask
abbrev pub as_wanted : Wanted → Packed → Bool
as_wanted w x = own_codes x belongs_to w.own and other_codes x belongs_to w.other and line_read (unpacked x) belongs_to w.line

-- a reading, if it is one of an aspect
abbrev pub aspect_holds : Plan → Kept → ℕ → ℕ → ℕ → Bool
aspect_holds p x kind arg value = if eqb kind 1 then eqb (aspect p x arg) value else true

unfoldable pub aspects_hold : Plan → List Reading → Kept → Bool
aspects_hold p [] x = true
aspects_hold p (r ∷ rest) x = aspect_holds p x r.kind r.argument r.value and aspects_hold p rest x
