-- A reader need not believe this file: readings of a station, by sets of its codes. That they are the readings is proved in proofs/CodesRead.
use Rattle.std.specs.Prelude.{ℕ, Bool, eqb, if◌then◌else◌, Result, Ok, Err}
use Rattle.words.specs.Words.{◌or◌}
use Rattle.sections.specs.Sections.{◌belongs_to◌}
use Rattle.situation.specs.CodeSets.{own_codes, other_codes, where_orientation, where_annulment, where_exit}
use Rattle.situation.specs.declared.Situation.{Situation as Packed}
use Rattle.block.specs.declared.refused.Refusal.{Refusal}
use Rattle.block.specs.declared.refused.Refusal.TheVariants.{OutOfRange}
use Rattle.block.specs.Refusals.{number}
use Rattle.signals.specs.Readings.{Told, told, nothing_told}
use Rattle.signals.specs.declared.readings.Code.{Code}
use Rattle.signals.specs.declared.readings.Code.TheVariants.{Orientation, Annulment, ExitRoute}
use Rattle.signals.specs.declared.readings.Kind.{Kind}
use Rattle.signals.specs.declared.readings.Kind.TheVariants.{Aspect, Station, Line}

-- the document's numbers of the kinds
abbrev pub code_number : Code → ℕ
code_number Orientation = 2
code_number Annulment = 3
code_number ExitRoute = 4

abbrev pub kind_number : Kind → ℕ
kind_number Aspect = 1
kind_number (Station code) = code_number code
kind_number Line = 5

abbrev pub kind_numbered : ℕ → Result Kind Refusal
kind_numbered n =
    if eqb n 1 then Ok Aspect else
    if eqb n 2 then Ok (Station Orientation) else
    if eqb n 3 then Ok (Station Annulment) else
    if eqb n 4 then Ok (Station ExitRoute) else
    if eqb n 5 then Ok Line else Err OutOfRange

-- the kinds whose argument is a station
abbrev pub of_station : ℕ → Bool
of_station kind = eqb kind 2 or eqb kind 3 or eqb kind 4

abbrev pub codes_of : ℕ → Packed → ℕ
codes_of arg x = if eqb arg 1 then other_codes x else own_codes x

-- the codes of a station in which a reading of this kind has this value
abbrev pub codes_where : ℕ → ℕ → ℕ
codes_where kind value =
    if eqb kind 2 then where_orientation value else
    if eqb kind 3 then where_annulment value else
    where_exit value

abbrev pub code_read : ℕ → ℕ → ℕ
code_read kind codes =
    if codes belongs_to codes_where kind 1 then 1 else
    if codes belongs_to codes_where kind 2 then 2 else 0
