-- A reader need not believe this file: records as the code has them, in bytes. proofs/InBytes shows that they are what the forms write.
use Rattle.std.specs.Prelude.{ℕ, ◌-◌, Bool, List, [], ◌∷◌, take, drop, get_or, eqb, if◌then◌else◌}
use Rattle.words.specs.Words.{◌and◌}
use Rattle.rulebook.specs.Apply.{event}
use Rattle.block.specs.declared.line.Plan.{Plan}
use Rattle.block.specs.declared.event.Event.{Event}
use Rattle.block.specs.declared.reading.Reading.{Reading}
use Rattle.forms.specs.declared.Letters.{Letters}
use Rattle.forms.specs.Compose.{byte, letters, section, named}
use Rattle.forms.specs.Taken.{value}
use Rattle.records.specs.Plan.{LC}
use Rattle.records.specs.Situation.{SI, SJ, Codes, codes_made, code_parts, body}

-- events of two bytes, one after the other
unfoldable pub events_in : List ℕ → List Event
events_in [] = []
events_in (c ∷ []) = []
events_in (c ∷ a ∷ s) = event c a ∷ events_in s

-- readings of three bytes
unfoldable pub readings_in : List ℕ → List Reading
readings_in [] = []
readings_in (k ∷ []) = []
readings_in (k ∷ a ∷ []) = []
readings_in (k ∷ a ∷ v ∷ s) = record { kind = k; argument = a; value = v } ∷ readings_in s

-- the section field of so many bytes that stands at a byte
abbrev pub field_at : ℕ → List ℕ → ℕ → ℕ
field_at width s at = value 0 (section width) (drop at s)

-- the codes of a record SI or SJ: past the end of SI, mark and count are zero
unfoldable pub codes_at : List ℕ → Codes
codes_at s = record {
  link = get_or s 2 0;
  orientation = (get_or s 3 0, get_or s 4 0);
  annulment = (get_or s 5 0, get_or s 6 0);
  exit = (get_or s 7 0, get_or s 8 0);
  entry = (get_or s 9 0, get_or s 10 0);
  pending = get_or s 11 0;
  bilc = get_or s 12 0;
  bslg = get_or s 13 0;
  reminder = get_or s 14 0;
  occupied = field_at 2 s 15;
  heldb = field_at 2 s 17;
  helda = field_at 2 s 19;
  mark = get_or s 21 0;
  count = get_or s 22 0;
}

-- ---- SI where mark and count are both zero, else SJ
abbrev pub both_zero : Codes → Bool
both_zero c = eqb c.mark 0 and eqb c.count 0

-- how many bytes the record has, with its letters
unfoldable pub situation_size : Codes → ℕ
situation_size c = if both_zero c then 21 else 23

abbrev pub situation_letters : Codes → Letters
situation_letters c = if both_zero c then SI else SJ

-- as many of these bytes as the record has are the record
unfoldable pub situation_bytes : Codes → List ℕ
situation_bytes c = (letters (situation_letters c) (named codes_made code_parts (body byte))).written c

-- ---- LB or LC: the second letter says which of the two
abbrev pub plan_at : List ℕ → Plan
plan_at s = record { sections = get_or s 2 0; frontier = get_or s 3 0; rules2012 = eqb (get_or s 1 0) LC.second }

-- how many bytes the record has, with its letters
unfoldable pub plan_size : Plan → ℕ
plan_size p = if p.rules2012 then 5 else 4

-- the bytes from one place up to another
abbrev pub part : ℕ → ℕ → List ℕ → List ℕ
part from to s = take (to - from) (drop from s)
