-- A reader need not believe this file: of a station's first six flags, two each of orientation, annulment and exit route, the sets of values
-- in which a code is the one asked. That they say what the codes say is proved in proofs/CodeSets.
use Rattle.std.specs.Prelude.{ℕ, ◌/◌, ◌%◌, ◌^◌, eqb, if◌then◌else◌}
use Rattle.sections.specs.Sections.{none}
use Rattle.situation.specs.declared.Situation.{Situation as Packed}

abbrev pub own_codes : Packed → ℕ
own_codes x = x.flags % 64

abbrev pub other_codes : Packed → ℕ
other_codes x = x.flags / 2 ^ 16 % 64

-- a set for each of the values 0, 1 and 2; no code has another
abbrev pub for_value : ℕ → ℕ → ℕ → ℕ → ℕ
for_value zeros ones twos value =
    if eqb value 0 then zeros else
    if eqb value 1 then ones else
    if eqb value 2 then twos else none

unfoldable pub where_orientation : ℕ → ℕ
where_orientation = for_value 0x1111111111111111 0xAAAAAAAAAAAAAAAA 0x4444444444444444

unfoldable pub where_annulment : ℕ → ℕ
where_annulment = for_value 0x000F000F000F000F 0xF0F0F0F0F0F0F0F0 0x0F000F000F000F00

unfoldable pub where_exit : ℕ → ℕ
where_exit = for_value 0x000000000000FFFF 0xFFFF0000FFFF0000 0x0000FFFF00000000
