-- THE table: a kind of event for each code. Which codes are known, what an argument names, whether pending goes, and the row: all is read
-- off it.
use Rattle.std.specs.Prelude.{ℕ, Bool, true, false, List, [], ◌∷◌, eqb, if◌then◌else◌}
use Rattle.rulebook.specs.Checks.{Row, ⟶◌, ◌┃◌, ◌when◌}
use Rattle.rulebook.specs.Place.{Place}
use Rattle.rulebook.specs.Situation.{Situation}
use Rattle.rulebook.specs.Events.{sobb, cobb, afbli, afble, dafbl, bilc, dilc, bslg, bslg_off, bslb, bslb_off, reminder, reminder_off, exit_normal, exit_special, exit_released, entry, entry_released, occupied, freed, link_lost, link_restored, second}

pub record Kind : Type 0 where
  pub code : ℕ
  pub argument : ℕ
  pub clears_pending : Bool
  pub row : Place → Situation → Row

-- what an argument names; 0 of no event
abbrev pub station : ℕ
station = 1

abbrev pub signal : ℕ
signal = 2

abbrev pub section : ℕ
section = 3

abbrev pub nothing : ℕ
nothing = 4

-- "any accepted AFBLI/AFBLE, any section becoming occupied, and link loss"; every other event leaves pending to the orientations
abbrev pub clears : Bool
clears = true

abbrev pub keeps : Bool
keeps = false

abbrev pub kind : ℕ → ℕ → Bool → (Place → Situation → Row) → Kind
kind c a p r = record { code = c; argument = a; clears_pending = p; row = r }

abbrev pub Sobb : Kind
Sobb = kind 1 station keeps sobb

abbrev pub Cobb : Kind
Cobb = kind 2 station keeps cobb

abbrev pub Afbli : Kind
Afbli = kind 3 station clears afbli

abbrev pub Afble : Kind
Afble = kind 4 station clears afble

abbrev pub Dafbl : Kind
Dafbl = kind 5 station keeps dafbl

abbrev pub Bilc : Kind
Bilc = kind 6 station keeps bilc

abbrev pub Dilc : Kind
Dilc = kind 7 station keeps dilc

abbrev pub Bslg : Kind
Bslg = kind 8 station keeps bslg

abbrev pub BslgOff : Kind
BslgOff = kind 9 station keeps bslg_off

abbrev pub Bslb : Kind
Bslb = kind 10 signal keeps bslb

abbrev pub BslbOff : Kind
BslbOff = kind 11 signal keeps bslb_off

abbrev pub Reminder : Kind
Reminder = kind 12 station keeps reminder

abbrev pub ReminderOff : Kind
ReminderOff = kind 13 station keeps reminder_off

abbrev pub ExitNormal : Kind
ExitNormal = kind 14 station keeps exit_normal

abbrev pub ExitSpecial : Kind
ExitSpecial = kind 15 station keeps exit_special

abbrev pub ExitReleased : Kind
ExitReleased = kind 16 station keeps exit_released

abbrev pub Entry : Kind
Entry = kind 17 station keeps entry

abbrev pub EntryReleased : Kind
EntryReleased = kind 18 station keeps entry_released

abbrev pub Occupied : Kind
Occupied = kind 19 section clears occupied

abbrev pub Freed : Kind
Freed = kind 20 section keeps freed

abbrev pub LinkLost : Kind
LinkLost = kind 21 nothing clears link_lost

abbrev pub LinkRestored : Kind
LinkRestored = kind 22 nothing keeps link_restored

-- "Add event 23, one second passed, argument 0"
abbrev pub Second : Kind
Second = kind 23 nothing keeps second

abbrev pub table : List Kind
table =
    Sobb
    ∷ Cobb
    ∷ Afbli
    ∷ Afble
    ∷ Dafbl
    ∷ Bilc
    ∷ Dilc
    ∷ Bslg
    ∷ BslgOff
    ∷ Bslb
    ∷ BslbOff
    ∷ Reminder
    ∷ ReminderOff
    ∷ ExitNormal
    ∷ ExitSpecial
    ∷ ExitReleased
    ∷ Entry
    ∷ EntryReleased
    ∷ Occupied
    ∷ Freed
    ∷ LinkLost
    ∷ LinkRestored
    ∷ Second
    ∷ []

-- "3 unknown code": no kind of the table
abbrev pub unknown : Kind
unknown = kind 0 0 keeps (λ at x. 3 when true ┃ ⟶ x)

abbrev pub find : ℕ → List Kind → Kind
find c [] = unknown
find c (e ∷ rest) = if eqb c e.code then e else find c rest

abbrev pub kind_of : ℕ → Kind
kind_of c = find c table
