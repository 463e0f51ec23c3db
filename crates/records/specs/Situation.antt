-- "SI, 19 bytes": "link; orientation A, B; annulment A, B; exit A, B; entry A, B; pending; BILC, BSLG, reminder as bits (1 A, 2 B); occupied,
-- held towards B, held towards A, each two bytes, low byte first, bit k-1 for section k." The situation is kept as A sees it.
-- 02, Req 02: "Record SJ is SI with the mark and the count added, a byte each; SI means both zero." "20 for SJ with both zero."
use Rattle.std.specs.Prelude.{ℕ, ◌+◌, ◌*◌, ◌/◌, ◌%◌, Bool, true, false, eqb, leb, if◌then◌else◌}
use Rattle.words.specs.Words.{◌and◌, flag}
use Rattle.rulebook.specs.Situation.{Station, Kept, fresh, with_link, with_pending}
use Rattle.block.specs.Codes.{orientation_code, annulment_code, route_code, pending_code}
use Rattle.block.specs.declared.codes.Orientation.{Orientation}
use Rattle.block.specs.declared.codes.Annulment.{Annulment}
use Rattle.block.specs.declared.codes.Route.{Route}
use Rattle.block.specs.declared.codes.Pending.{Pending}
use Rattle.forms.specs.declared.Letters.{Letters}
use Rattle.forms.specs.Form.{Form}
use Rattle.forms.specs.Compose.{byte, ◌⊗◌, letters, section, named}
use Rattle.forms.specs.Choices.{left_out, ◌or_else◌}

abbrev pub SI : Letters
SI = record { first = 83; second = 73 }

abbrev pub SJ : Letters
SJ = record { first = 83; second = 74 }

-- a code of A and one of B
abbrev pub Pair : Type 0
Pair = ℕ × ℕ

pub record Codes : Type 0 where
  pub link : ℕ
  pub orientation : Pair
  pub annulment : Pair
  pub exit : Pair
  pub entry : Pair
  pub pending : ℕ
  pub bilc : ℕ
  pub bslg : ℕ
  pub reminder : ℕ
  pub occupied : ℕ
  pub heldb : ℕ
  pub helda : ℕ
  pub mark : ℕ
  pub count : ℕ

-- ---- the record
abbrev pub CodeParts : Type 0
CodeParts = ℕ × (Pair × (Pair × (Pair × (Pair × (ℕ × (ℕ × (ℕ × (ℕ × (ℕ × (ℕ × (ℕ × (ℕ × ℕ))))))))))))

abbrev pub codes_made : CodeParts → Codes
codes_made (l, (o, (a, (x, (e, (p, (i, (g, (r, (k, (hb, (ha, (m, n))))))))))))) = record {
  link = l;
  orientation = o;
  annulment = a;
  exit = x;
  entry = e;
  pending = p;
  bilc = i;
  bslg = g;
  reminder = r;
  occupied = k;
  heldb = hb;
  helda = ha;
  mark = m;
  count = n;
}

abbrev pub code_parts : Codes → CodeParts
code_parts c = (c.link, (c.orientation, (c.annulment, (c.exit, (c.entry, (c.pending, (c.bilc, (c.bslg, (c.reminder, (c.occupied, (c.heldb, (c.helda, (c.mark, c.count)))))))))))))

abbrev pub pair : Form Pair
pair = byte ⊗ byte

-- the bytes in their order; mark and count, the last two, as the record has them
abbrev pub body : Form ℕ → Form CodeParts
body mark_and_count = byte ⊗ pair ⊗ pair ⊗ pair ⊗ pair ⊗ byte ⊗ byte ⊗ byte ⊗ byte ⊗ section 2 ⊗ section 2 ⊗ section 2 ⊗ mark_and_count ⊗ mark_and_count

-- "SI means both zero"
abbrev pub without_watch : Form Codes
without_watch = letters SI (named codes_made code_parts (body (left_out 0)))

-- "the mark and the count added, a byte each"
abbrev pub with_watch : Form Codes
with_watch = letters SJ (named codes_made code_parts (body byte))

-- SJ exactly where SI cannot say it; SJ with both zero is read as nothing: 20
unfoldable pub situation : Form Codes
situation = without_watch or_else with_watch

-- ---- the codes of a situation
-- "as bits (1 A, 2 B)"
abbrev pub bits : Bool → Bool → ℕ
bits a b = flag a + 2 * flag b

-- "bit k-1 for section k": a set of sections has bit k for section k, so its field is its half
abbrev pub field_of : ℕ → ℕ
field_of sections = sections / 2

unfoldable pub codes_of : Kept → Codes
codes_of x = record {
  link = flag x.traffic.link;
  orientation = (orientation_code x.traffic.own.orientation, orientation_code x.traffic.other.orientation);
  annulment = (annulment_code x.traffic.own.annulment, annulment_code x.traffic.other.annulment);
  exit = (route_code x.traffic.own.exit, route_code x.traffic.other.exit);
  entry = (flag x.traffic.own.entry, flag x.traffic.other.entry);
  pending = pending_code x.traffic.pending;
  bilc = bits x.traffic.own.bilc x.traffic.other.bilc;
  bslg = bits x.traffic.own.bslg x.traffic.other.bslg;
  reminder = bits x.traffic.own.reminder x.traffic.other.reminder;
  occupied = field_of x.traffic.track.occupied;
  heldb = field_of x.signals.held.towardsb;
  helda = field_of x.signals.held.towardsa;
  mark = flag x.traffic.track.watch.mark;
  count = x.traffic.track.watch.count;
}

-- ---- the situation that codes say
-- every code has one of its values, and no bit names a station that is not there
unfoldable pub in_range : Codes → Bool
in_range c =
    leb c.link 1
    and leb c.orientation.0 2 and leb c.orientation.1 2
    and leb c.annulment.0 2 and leb c.annulment.1 2
    and leb c.exit.0 2 and leb c.exit.1 2
    and leb c.entry.0 1 and leb c.entry.1 1
    and leb c.pending 2
    and leb c.bilc 3 and leb c.bslg 3 and leb c.reminder 3
    and leb c.mark 1 and leb c.count 10

abbrev pub orientation_of : ℕ → Orientation
orientation_of code = record { out = eqb code 1; inward = eqb code 2 }

abbrev pub annulment_of : ℕ → Annulment
annulment_of code = record { afbli = eqb code 1; afble = eqb code 2 }

abbrev pub route_of : ℕ → Route
route_of code = record { normal = eqb code 1; special = eqb code 2 }

abbrev pub pending_of : ℕ → Pending
pending_of code = record { own = eqb code 1; other = eqb code 2 }

abbrev pub bit_of_A : ℕ → Bool
bit_of_A byte = eqb (byte % 2) 1

abbrev pub bit_of_B : ℕ → Bool
bit_of_B byte = eqb (byte / 2) 1

-- a station: its code of each pair, and its bits
abbrev pub station_said : (Pair → ℕ) → (ℕ → Bool) → Codes → Station
station_said its bit c = record {
  orientation = orientation_of (its c.orientation);
  annulment = annulment_of (its c.annulment);
  exit = route_of (its c.exit);
  entry = eqb (its c.entry) 1;
  bilc = bit c.bilc;
  bslg = bit c.bslg;
  reminder = bit c.reminder;
}

abbrev pub sections_of : ℕ → ℕ
sections_of field = 2 * field

unfoldable pub said : Codes → Kept
said c = record {
  traffic = record {
    link = eqb c.link 1;
    own = station_said (λ v. v.0) bit_of_A c;
    other = station_said (λ v. v.1) bit_of_B c;
    pending = pending_of c.pending;
    track = record { occupied = sections_of c.occupied; watch = record { mark = eqb c.mark 1; count = c.count } };
  };
  signals = record { held = record { towardsb = sections_of c.heldb; towardsa = sections_of c.helda } };
}

-- what codes out of range say: it is sound in no plan, two SOBB being pending at once
abbrev pub no_situation : Kept
no_situation = with_pending (record { own = true; other = true }) (with_link false fresh)

unfoldable pub situation_of : Codes → Kept
situation_of c = if in_range c then said c else no_situation
