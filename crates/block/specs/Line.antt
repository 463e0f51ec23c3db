-- The line: a plan, its stations, its sections and their signals.
use Rattle.std.specs.Prelude.{ℕ, zero, suc, ◌+◌, ◌-◌, Bool, true, false, not, eqb, leb, ltb, if◌then◌else◌}
use Rattle.words.specs.Words.{◌and◌, ◌or◌}
use Rattle.block.specs.declared.line.Plan.{Plan}
use Rattle.block.specs.declared.line.Name.{Name}
use Rattle.block.specs.declared.line.Name.TheVariants.{StationA, StationB}
use Rattle.block.specs.declared.line.Direction.{Direction}
use Rattle.block.specs.declared.line.Direction.TheVariants.{TowardsA, TowardsB}

-- "A plan has n sections, 2 to 16, numbered from A, and a frontier b, 1 to n-1."
abbrev pub is_plan : Plan → Bool
is_plan p = leb 2 p.sections and leb p.sections 16 and leb 1 p.frontier and ltb p.frontier p.sections

-- "0 is accepted. 1 plan"
abbrev pub plan_judged : Plan → ℕ
plan_judged p = if is_plan p then 0 else 1

abbrev pub is_section : Plan → ℕ → Bool
is_section p k = leb 1 k and leb k p.sections

-- a test holds of some section of the line
abbrev pub some_of : ℕ → (ℕ → Bool) → Bool
some_of zero test = false
some_of (suc k) test = test (suc k) or some_of k test

abbrev pub some_section : Plan → (ℕ → Bool) → Bool
some_section p test = some_of p.sections test

-- "Sections 1..b are A's area, the others B's."
abbrev pub owner : Plan → ℕ → Name
owner p k = if leb k p.frontier then StationA else StationB

-- "Station A's first section (1AD) is 1, B's is n."
abbrev pub first_section : Plan → Name → ℕ
first_section p StationA = 1
first_section p StationB = p.sections

abbrev pub is_first : Plan → Name → ℕ → Bool
is_first p s k = eqb k (first_section p s)

-- ---- stations and directions
-- "Station argument: 0 A, 1 B."
abbrev pub station_named : ℕ → Name
station_named arg = if eqb arg 1 then StationB else StationA

abbrev pub opposite : Name → Name
opposite StationA = StationB
opposite StationB = StationA

-- out of a station, and into it
abbrev pub away : Name → Direction
away StationA = TowardsB
away StationB = TowardsA

abbrev pub toward : Name → Direction
toward StationA = TowardsA
toward StationB = TowardsB

-- the station where trains enter the line in a direction, and the one that receives them
abbrev pub entrance : Direction → Name
entrance TowardsA = StationB
entrance TowardsB = StationA

abbrev pub terminus : Direction → Name
terminus TowardsA = StationA
terminus TowardsB = StationB

-- the section before k, and after k, in a direction
abbrev pub before : Direction → ℕ → ℕ
before TowardsA k = k + 1
before TowardsB k = k - 1

abbrev pub after : Direction → ℕ → ℕ
after TowardsA k = k - 1
after TowardsB k = k + 1

abbrev pub same_station : Name → Name → Bool
same_station StationA StationA = true
same_station StationA StationB = false
same_station StationB StationA = false
same_station StationB StationB = true

abbrev pub in_area : Plan → Name → ℕ → Bool
in_area p s k = same_station (owner p k) s

-- the frontier lies between two sections that follow each other and are not in one area
abbrev pub across_frontier : Plan → ℕ → ℕ → Bool
across_frontier p j k = not (same_station (owner p j) (owner p k))

-- ---- signals
-- "Each section k has a signal covering it towards B, named k, and one covering it towards A, named 128+k."
abbrev pub direction_of : ℕ → Direction
direction_of signal = if leb 128 signal then TowardsA else TowardsB

abbrev pub section_of : ℕ → ℕ
section_of signal = if leb 128 signal then signal - 128 else signal

abbrev pub is_signal : Plan → ℕ → Bool
is_signal p signal = is_section p (section_of signal)

-- "Signals 1 and 128+n are the exit signals of A and B": those over the first section of the station where trains enter
abbrev pub is_exit : Plan → Direction → ℕ → Bool
is_exit p d k = is_first p (entrance d) k

-- "the rest are block signals"
abbrev pub is_block_signal : Plan → ℕ → Bool
is_block_signal p signal = is_signal p signal and not (is_exit p (direction_of signal) (section_of signal))
