-- The situation, in the document's words. Its parts: traffic (link, stations, pending SOBB, track) and signals.
use Rattle.std.specs.Prelude.{ℕ, Bool, true, false, not, eqb, if◌then◌else◌}
use Rattle.words.specs.Words.{◌and◌, ◌or◌}
use Rattle.sections.specs.Sections as sections
use Rattle.block.specs.declared.line.Name.{Name}
use Rattle.block.specs.declared.line.Name.TheVariants.{StationA, StationB}
use Rattle.block.specs.declared.line.Direction.{Direction}
use Rattle.block.specs.declared.line.Direction.TheVariants.{TowardsA, TowardsB}
use Rattle.block.specs.declared.codes.Orientation.{Orientation}
use Rattle.block.specs.declared.codes.Annulment.{Annulment}
use Rattle.block.specs.declared.codes.Route.{Route}
use Rattle.block.specs.declared.codes.Pending.{Pending}

-- "Per station: orientation ..; annulment ..; exit route ..; entry route ..; BILC; BSLG; blocking reminder on its first section."
pub record Station : Type 0 where
  pub orientation : Orientation
  pub annulment : Annulment
  pub exit : Route
  pub entry : Bool
  pub bilc : Bool
  pub bslg : Bool
  pub reminder : Bool

-- (02, Req 02) what is kept of a stray occupation: "A mark is set when a section becomes occupied, unexpected by 01"; "a count of 10 starts"
pub record Watch : Type 0 where
  pub mark : Bool
  pub count : ℕ

-- the track: "Occupied sections", and the watch kept over it
pub record Track : Type 0 where
  pub occupied : ℕ
  pub watch : Watch

-- what moves trains, as one of the stations sees it: own, and the other
pub record Traffic : Type 0 where
  pub link : Bool
  pub own : Station
  pub other : Station
  pub pending : Pending
  pub track : Track

-- "block signals held by BSLB", by their sections
pub record Held : Type 0 where
  pub towardsb : ℕ
  pub towardsa : ℕ

pub record Signals : Type 0 where
  pub held : Held

-- a situation as one of the stations sees it
pub record Situation : Type 0 where
  pub traffic : Traffic
  pub signals : Signals

-- a situation as it is kept, written and asked for: as A sees it, own being A and the other B
abbrev pub Kept : Type 0
Kept = Situation

-- ---- the codes: orientation (0 none, 1 out, 2 in); annulment (0 none, 1 AFBLI, 2 AFBLE); exit route (0, 1 normal, 2 special)
abbrev pub none : Orientation
none = record { out = false; inward = false }

abbrev pub out : Orientation
out = record { out = true; inward = false }

abbrev pub inward : Orientation
inward = record { out = false; inward = true }

abbrev pub no_annulment : Annulment
no_annulment = record { afbli = false; afble = false }

abbrev pub AFBLI : Annulment
AFBLI = record { afbli = true; afble = false }

abbrev pub AFBLE : Annulment
AFBLE = record { afbli = false; afble = true }

abbrev pub no_route : Route
no_route = record { normal = false; special = false }

abbrev pub normal : Route
normal = record { normal = true; special = false }

abbrev pub special : Route
special = record { normal = false; special = true }

abbrev pub nobody : Pending
nobody = record { own = false; other = false }

abbrev pub own_sobb : Pending
own_sobb = record { own = true; other = false }

-- ---- what is asked of a station
infix 70 ◌is_out
infix 70 ◌is_in
infix 70 ◌is_none
infix 70 ◌annulled
infix 70 ◌under_AFBLE
infix 70 ◌under_AFBLI
infix 70 ◌has_exit_route
abbrev pub ◌is_out : Station → Bool
t is_out = t.orientation.out

abbrev pub ◌is_in : Station → Bool
t is_in = t.orientation.inward

abbrev pub ◌is_none : Station → Bool
t is_none = not (t is_out or t is_in)

abbrev pub ◌under_AFBLI : Station → Bool
t under_AFBLI = t.annulment.afbli

abbrev pub ◌under_AFBLE : Station → Bool
t under_AFBLE = t.annulment.afble

abbrev pub ◌annulled : Station → Bool
t annulled = t under_AFBLI or t under_AFBLE

abbrev pub ◌has_exit_route : Station → Bool
t has_exit_route = t.exit.normal or t.exit.special

-- "A station's area direction is out under AFBLE, in under AFBLI, else its orientation."
abbrev pub area_direction : Station → Orientation
area_direction t = if t under_AFBLE then out else if t under_AFBLI then inward else t.orientation

-- ---- a station with one thing changed
infixl 70 ◌becomes◌
infixl 70 ◌annulled_by◌
infixl 70 ◌with_exit◌
abbrev pub ◌becomes◌ : Station → Orientation → Station
t becomes o = record { orientation = o; annulment = t.annulment; exit = t.exit; entry = t.entry; bilc = t.bilc; bslg = t.bslg; reminder = t.reminder }

abbrev pub ◌annulled_by◌ : Station → Annulment → Station
t annulled_by a = record { orientation = t.orientation; annulment = a; exit = t.exit; entry = t.entry; bilc = t.bilc; bslg = t.bslg; reminder = t.reminder }

abbrev pub ◌with_exit◌ : Station → Route → Station
t with_exit r = record { orientation = t.orientation; annulment = t.annulment; exit = r; entry = t.entry; bilc = t.bilc; bslg = t.bslg; reminder = t.reminder }

abbrev pub with_entry : Bool → Station → Station
with_entry v t = record { orientation = t.orientation; annulment = t.annulment; exit = t.exit; entry = v; bilc = t.bilc; bslg = t.bslg; reminder = t.reminder }

abbrev pub with_bilc : Bool → Station → Station
with_bilc v t = record { orientation = t.orientation; annulment = t.annulment; exit = t.exit; entry = t.entry; bilc = v; bslg = t.bslg; reminder = t.reminder }

abbrev pub with_bslg : Bool → Station → Station
with_bslg v t = record { orientation = t.orientation; annulment = t.annulment; exit = t.exit; entry = t.entry; bilc = t.bilc; bslg = v; reminder = t.reminder }

abbrev pub with_reminder : Bool → Station → Station
with_reminder v t = record { orientation = t.orientation; annulment = t.annulment; exit = t.exit; entry = t.entry; bilc = t.bilc; bslg = t.bslg; reminder = v }

-- ---- a situation with one part changed: a literal for each part
abbrev pub with_traffic : Traffic → Situation → Situation
with_traffic t x = record { traffic = t; signals = x.signals }

abbrev pub with_signals : Signals → Situation → Situation
with_signals s x = record { traffic = x.traffic; signals = s }

abbrev pub with_link : Bool → Situation → Situation
with_link v x = with_traffic (record { link = v; own = x.traffic.own; other = x.traffic.other; pending = x.traffic.pending; track = x.traffic.track }) x

abbrev pub with_stations : Station → Station → Situation → Situation
with_stations s t x = with_traffic (record { link = x.traffic.link; own = s; other = t; pending = x.traffic.pending; track = x.traffic.track }) x

abbrev pub with_pending : Pending → Situation → Situation
with_pending p x = with_traffic (record { link = x.traffic.link; own = x.traffic.own; other = x.traffic.other; pending = p; track = x.traffic.track }) x

abbrev pub with_track : Track → Situation → Situation
with_track t x = with_traffic (record { link = x.traffic.link; own = x.traffic.own; other = x.traffic.other; pending = x.traffic.pending; track = t }) x

abbrev pub with_own_station : Station → Situation → Situation
with_own_station s x = with_stations s x.traffic.other x

-- the track with these sections occupied, and with this watch kept over it
abbrev pub with_occupied : ℕ → Track → Track
with_occupied m t = record { occupied = m; watch = t.watch }

abbrev pub with_this_watch : Watch → Track → Track
with_this_watch w t = record { occupied = t.occupied; watch = w }

abbrev pub with_held_signals : Held → Signals → Signals
with_held_signals h s = record { held = h }

-- own and the other become these
abbrev pub reoriented : Orientation → Orientation → Situation → Situation
reoriented o p x = with_stations (x.traffic.own becomes o) (x.traffic.other becomes p) x

-- own and the other become these where v holds
abbrev pub reoriented_where : Bool → Orientation → Orientation → Situation → Situation
reoriented_where v o p x = reoriented (if v then o else x.traffic.own.orientation) (if v then p else x.traffic.other.orientation) x

-- the same situation as the other station sees it
abbrev pub turned : Pending → Pending
turned p = record { own = p.other; other = p.own }

abbrev pub turned_round : Situation → Situation
turned_round x = with_pending (turned x.traffic.pending) (with_stations x.traffic.other x.traffic.own x)

-- the situation as the station s sees it, and back
abbrev pub seen_from : Name → Kept → Situation
seen_from StationA x = x
seen_from StationB x = turned_round x

abbrev pub kept_from : Name → Situation → Kept
kept_from s y = seen_from s y

-- the stations of a situation that is kept
abbrev pub station : Kept → Name → Station
station x StationA = x.traffic.own
station x StationB = x.traffic.other

-- the block signals in a direction that BSLB holds, by their sections
abbrev pub held_towards : Direction → Held → ℕ
held_towards TowardsA h = h.towardsa
held_towards TowardsB h = h.towardsb

abbrev pub held : Situation → Direction → ℕ
held x d = held_towards d x.signals.held

abbrev pub with_held_towards : Direction → ℕ → Held → Held
with_held_towards TowardsA m h = record { towardsb = h.towardsb; towardsa = m }
with_held_towards TowardsB m h = record { towardsb = m; towardsa = h.towardsa }

abbrev pub with_held : Direction → ℕ → Situation → Situation
with_held d m x = with_signals (with_held_signals (with_held_towards d m x.signals.held) x.signals) x

-- ---- what is asked of a situation
abbrev pub any_exit_route : Situation → Bool
any_exit_route x = x.traffic.own has_exit_route or x.traffic.other has_exit_route

abbrev pub none_occupied : Track → Bool
none_occupied t = eqb t.occupied sections.none

abbrev pub count_runs : Watch → Bool
count_runs w = not (eqb w.count 0)

-- no section is occupied; (02, Req 02) "While it runs the line is not free for refusal 13, for automatic reorientation and for reading 5."
abbrev pub track_free : Track → Bool
track_free t = none_occupied t and not (count_runs t.watch)

-- "The line is free when link is up, no section is occupied and neither station has an exit route."
abbrev pub free_with : Bool → Situation → Bool
free_with released x = x.traffic.link and released and not (any_exit_route x)

abbrev pub line_free : Situation → Bool
line_free x = free_with (track_free x.traffic.track) x

abbrev pub one_out_one_in : Situation → Bool
one_out_one_in x = (x.traffic.own is_out and x.traffic.other is_in) or (x.traffic.own is_in and x.traffic.other is_out)

-- (02, Req 03) "both oriented out"
abbrev pub both_out : Situation → Bool
both_out x = x.traffic.own is_out and x.traffic.other is_out

abbrev pub both_none : Situation → Bool
both_none x = x.traffic.own is_none and x.traffic.other is_none

-- (02, Req 02) "SI means both zero"
abbrev pub no_watch : Watch
no_watch = record { mark = false; count = 0 }

-- "The fresh one: link 1, all else 0."
abbrev pub blank : Station
blank = record { orientation = none; annulment = no_annulment; exit = no_route; entry = false; bilc = false; bslg = false; reminder = false }

abbrev pub fresh : Kept
fresh =
    record {
      traffic = record { link = true; own = blank; other = blank; pending = nobody; track = record { occupied = sections.none; watch = no_watch } };
      signals = record { held = record { towardsb = sections.none; towardsa = sections.none } };
    }
