-- (02, Req 01) What a refusal names, asked after it: "The name replaces one of 01's zeros."
use Rattle.std.specs.Prelude.{ℕ, zero, suc, ◌+◌, Bool, eqb, if◌then◌else◌}
use Rattle.words.specs.Words.{◌or◌}
use Rattle.sections.specs.Sections.{◌belongs_to◌}
use Rattle.block.specs.Line.{station_named}
use Rattle.rulebook.specs.Situation.{Kept, station, ◌has_exit_route}
use Rattle.rulebook.specs.Table.{Sobb, Cobb}
use Rattle.block.specs.declared.line.Plan.{Plan}
use Rattle.block.specs.declared.line.Name.{Name}
use Rattle.block.specs.declared.line.Name.TheVariants.{StationA, StationB}
use Rattle.block.specs.declared.event.Event.{Event}

-- ---- "13 .. names the lowest occupied one": a section by its number; (02, Req 02) "a running count alone gives 13 with section 0"
-- the lowest of n sections from k on that is in the set; 0 if none is
unfoldable pub lowest_from : ℕ → ℕ → ℕ → ℕ
lowest_from k zero m = 0
lowest_from k (suc n) m = if k belongs_to m then k else lowest_from (k + 1) n m

abbrev pub lowest_occupied : Plan → Kept → ℕ
lowest_occupied p x = lowest_from 1 p.sections x.traffic.track.occupied

-- ---- "Refusal 9 names the station that holds the route, own where own is checked, else A first if both do."
-- "Station argument: 0 A, 1 B."
abbrev pub station_argument : Name → ℕ
station_argument StationA = 0
station_argument StationB = 1

-- SOBB and COBB check any exit route; AFBLI, AFBLE and BILC own's
abbrev pub any_checked : ℕ → Bool
any_checked code = eqb code Sobb.code or eqb code Cobb.code

abbrev pub route_holder : Kept → Bool → Name → Name
route_holder x any own =
    if any then (if station x StationA has_exit_route then StationA else StationB) else own

-- own: every event that has the check 9 names a station
abbrev pub own_of : Event → Name
own_of e = station_named e.argument

-- ---- what a refusal names; every number but 13 and 9 nothing, 0
abbrev pub name : Plan → Kept → Event → ℕ → ℕ
name p x e refusal =
    if eqb refusal 13 then lowest_occupied p x else
    if eqb refusal 9 then station_argument (route_holder x (any_checked e.code) (own_of e)) else
    0
