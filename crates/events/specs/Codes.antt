-- A reader need not believe this file: the code's names for the kinds of the table, and for what an argument names.
use Rattle.std.specs.Prelude.{◌≡◌, ℕ, Result, MatchResult}
use Rattle.rulebook.specs.Table.{Kind, station, signal, section, nothing, unknown, kind_of}
use Rattle.rulebook.specs.Table as Table
use Rattle.block.specs.declared.refused.Refusal.{Refusal}
use Rattle.block.specs.declared.refused.Refusal.TheVariants.{UnknownCode}
use Rattle.events.specs.declared.code.Code.{Code}
use Rattle.events.specs.declared.code.Argument.{Argument}

-- the kind of the table that a code names
abbrev pub kind_for : Code → Kind
kind_for Code.Sobb = Table.Sobb
kind_for Code.Cobb = Table.Cobb
kind_for Code.Afbli = Table.Afbli
kind_for Code.Afble = Table.Afble
kind_for Code.Dafbl = Table.Dafbl
kind_for Code.Bilc = Table.Bilc
kind_for Code.Dilc = Table.Dilc
kind_for Code.Bslg = Table.Bslg
kind_for Code.BslgOff = Table.BslgOff
kind_for Code.Bslb = Table.Bslb
kind_for Code.BslbOff = Table.BslbOff
kind_for Code.Reminder = Table.Reminder
kind_for Code.ReminderOff = Table.ReminderOff
kind_for Code.ExitNormal = Table.ExitNormal
kind_for Code.ExitSpecial = Table.ExitSpecial
kind_for Code.ExitReleased = Table.ExitReleased
kind_for Code.Entry = Table.Entry
kind_for Code.EntryReleased = Table.EntryReleased
kind_for Code.Occupied = Table.Occupied
kind_for Code.Freed = Table.Freed
kind_for Code.LinkLost = Table.LinkLost
kind_for Code.LinkRestored = Table.LinkRestored
kind_for Code.Second = Table.Second

-- a byte is read as the code whose kind the table has for it, or it is no kind of the table
abbrev pub Decodes : ℕ → Result Code Refusal → Type 0
Decodes byte r = MatchResult r (λ code. kind_of byte ≡ kind_for code) (λ e. (kind_of byte ≡ unknown) × (e ≡ UnknownCode))

-- what an argument names, by the table's numbers
abbrev pub names : Argument → ℕ
names Argument.Station = station
names Argument.Signal = signal
names Argument.Section = section
names Argument.Nothing = nothing
