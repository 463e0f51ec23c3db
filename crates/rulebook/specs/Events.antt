-- Orders and happenings, a row of the table each. x is the situation as the station named sees it: "own" is that station, "other" its
-- neighbour; at is where the event happens. What becomes of a pending SOBB is said once, in Pending.
use Rattle.std.specs.Prelude.{ℕ, ◌-◌, Bool, true, false, not, eqb, if◌then◌else◌}
use Rattle.words.specs.Words.{◌and◌, ◌or◌}
use Rattle.sections.specs.Sections as sections
use Rattle.sections.specs.Sections.{◌belongs_to◌, ◌with_section◌, ◌without_section◌}
use Rattle.rulebook.specs.Checks.{Row, ⟶◌, ◌┃◌, ◌when◌, enough_when◌}
use Rattle.rulebook.specs.Place.{Place}
use Rattle.rulebook.specs.Situation as situation
use Rattle.rulebook.specs.Situation.{Station, Watch, Track, Situation, none, out, inward, no_annulment, AFBLI, AFBLE, no_route, normal, special, own_sobb, ◌is_out, ◌is_in, ◌is_none, ◌annulled, ◌under_AFBLE, ◌has_exit_route, ◌annulled_by◌, ◌with_exit◌, with_entry, with_bilc, with_bslg, with_reminder, with_link, with_own_station, with_pending, with_track, with_this_watch, no_watch, with_held, reoriented, reoriented_where}
use Rattle.block.specs.declared.codes.Annulment.{Annulment}
use Rattle.block.specs.declared.codes.Route.{Route}

module _ (at : Place) (x : Situation) where
  -- the table's words
  abbrev own : Station
  own = x.traffic.own

  abbrev other : Station
  other = x.traffic.other

  abbrev link_up : Bool
  link_up = x.traffic.link

  abbrev link_down : Bool
  link_down = not link_up

  abbrev own_pending : Bool
  own_pending = x.traffic.pending.own

  abbrev others_pending : Bool
  others_pending = x.traffic.pending.other

  abbrev one_pending : Bool
  one_pending = own_pending or others_pending

  abbrev any_exit_route : Bool
  any_exit_route = situation.any_exit_route x

  abbrev line_free : Bool
  line_free = situation.free_with at.track_free x

  abbrev track_not_free : Bool
  track_not_free = not at.track_free

  -- (02, Req 05) "for the 2012 rules"
  abbrev in_2012 : Bool
  in_2012 = at.plan.rules2012

  abbrev k : ℕ
  k = at.section

  abbrev track : Track
  track = x.traffic.track

  abbrev mark : Bool
  mark = track.watch.mark

  abbrev count : ℕ
  count = track.watch.count

  abbrev held : ℕ
  held = situation.held x at.direction

  -- | 1 | SOBB | 8 own annulled; 6 link down; 7 one pending; 9 any exit route; 12 own is out | pending = own |
  abbrev pub sobb : Row
  sobb =
      8 when own annulled
      ┃ 6 when link_down
      ┃ 7 when one_pending
      ┃ 9 when any_exit_route
      ┃ 12 when own is_out
      ┃ ⟶ with_pending own_sobb x

  -- | 2 | COBB | 8 own annulled; 6; 7 pending is not other's; 9 any exit route | other out, own in |
  abbrev pub cobb : Row
  cobb =
      8 when own annulled
      ┃ 6 when link_down
      ┃ 7 when not others_pending
      ┃ 9 when any_exit_route
      ┃ ⟶ reoriented inward out x

  -- "own orientation becomes none; with link up the other's too"
  abbrev pub annul : Annulment → Situation
  annul a = reoriented none (if link_up then none else other.orientation) (with_own_station (own annulled_by a) x)

  -- | 3 | AFBLI | 8 own annulled; 7 own SOBB pending; 9 own exit route | own annulment 1 |
  abbrev pub checked_as_3 : Row → Row
  checked_as_3 rest =
      8 when own annulled
      ┃ 7 when own_pending
      ┃ 9 when own has_exit_route
      ┃ rest

  -- (02, Req 05) "2012 only: for AFBLI and AFBLE after all checks in 01, 11 BILC, 16 BSLG, 17 BSLB, in that order"
  abbrev pub excluded : Row → Row
  excluded rest =
      11 when in_2012 and own.bilc
      ┃ 16 when in_2012 and own.bslg
      ┃ 17 when in_2012 and at.held_here
      ┃ rest

  abbrev pub afbli : Row
  afbli = checked_as_3 (excluded (⟶ annul AFBLI))

  -- | 4 | AFBLE | as 3, then 10 own entry route | own annulment 2 |
  abbrev pub afble : Row
  afble = checked_as_3 (10 when own.entry ┃ excluded (⟶ annul AFBLE))

  -- | 5 | DAFBL | 5 not annulled | annulment 0 |
  abbrev pub dafbl : Row
  dafbl = 5 when not (own annulled) ┃ ⟶ with_own_station (own annulled_by no_annulment) x

  -- | 6, 7 | BILC, DILC | 5; for BILC then 9 own exit route | set, clear |
  -- (02, Req 05) "2012 only: .. for BILC and BSLB, 8 own annulled, after all else"
  abbrev pub bilc : Row
  bilc = 5 when own.bilc ┃ 9 when own has_exit_route ┃ 8 when in_2012 and own annulled ┃ ⟶ with_own_station (with_bilc true own) x

  abbrev pub dilc : Row
  dilc = 5 when not own.bilc ┃ ⟶ with_own_station (with_bilc false own) x

  -- | 8, 9 | BSLG, its release | 5; for BSLG then 8 own annulled | set, clear |
  abbrev pub bslg : Row
  bslg = 5 when own.bslg ┃ 8 when own annulled ┃ ⟶ with_own_station (with_bslg true own) x

  abbrev pub bslg_off : Row
  bslg_off = 5 when not own.bslg ┃ ⟶ with_own_station (with_bslg false own) x

  -- | 10, 11 | BSLB, its release (argument: block signal) | 5 | set, clear |; the signal covers section k
  abbrev pub bslb : Row
  bslb = 5 when (k belongs_to held) ┃ 8 when in_2012 and own annulled ┃ ⟶ with_held at.direction (held with_section k) x

  abbrev pub bslb_off : Row
  bslb_off = 5 when not (k belongs_to held) ┃ ⟶ with_held at.direction (held without_section k) x

  -- | 12, 13 | reminder on, off | 5 | set, clear |
  abbrev pub reminder : Row
  reminder = 5 when own.reminder ┃ ⟶ with_own_station (with_reminder true own) x

  abbrev pub reminder_off : Row
  reminder_off = 5 when not own.reminder ┃ ⟶ with_own_station (with_reminder false own) x

  -- "if own is in, own becomes out and other in (001, automatic reorientation). With AFBLE no orientation is written."
  -- (02, Req 02) "an accepted exit route clears both", mark and count
  abbrev pub exit : Route → Situation
  exit r = reoriented_where (own is_in and not (own under_AFBLE)) out inward (with_own_station (own with_exit r) (with_track (with_this_watch no_watch track) x))

  -- | 14 | exit route, normal | 5 one is set; 11 BILC; 8 annulled; 14 reminder; 6; 12 own none; 13 own is in and line not free |
  -- 02, Req 01, tells its last check apart: "13 stays for an occupied section ..; 15 is for a free track with an exit route at the other station.
  -- When both hold, 13 is given." Req 02: "a running count alone gives 13", too
  abbrev pub exit_normal : Row
  exit_normal =
      5 when own has_exit_route
      ┃ 11 when own.bilc
      ┃ 8 when own annulled
      ┃ 14 when own.reminder
      ┃ 6 when link_down
      ┃ 12 when own is_none
      ┃ 13 when own is_in and track_not_free
      ┃ 15 when own is_in and other has_exit_route
      ┃ ⟶ exit normal

  -- | 15 | exit route, special | as 14 without 14; with AFBLE only 5 and 11 are checked |
  abbrev pub exit_special : Row
  exit_special =
      5 when own has_exit_route
      ┃ 11 when own.bilc
      ┃ enough_when own under_AFBLE
      ┃ 8 when own annulled
      ┃ 6 when link_down
      ┃ 12 when own is_none
      ┃ 13 when own is_in and track_not_free
      ┃ 15 when own is_in and other has_exit_route
      ┃ ⟶ exit special

  -- | 16 | exit route released | 5 | route 0 |
  abbrev pub exit_released : Row
  exit_released = 5 when not (own has_exit_route) ┃ ⟶ with_own_station (own with_exit no_route) x

  -- | 17, 18 | entry route set, released | 5 | 1, 0 |
  abbrev pub entry : Row
  entry = 5 when own.entry ┃ ⟶ with_own_station (with_entry true own) x

  abbrev pub entry_released : Row
  entry_released = 5 when not own.entry ┃ ⟶ with_own_station (with_entry false own) x

  -- | 19, 20 | section occupied, freed | 5 | see below |: "Occupied k, owner s", which is own
  -- "If unexpected, s's annulment becomes 0, except that AFBLE at s stays when k is s's first section"
  abbrev pub annulment_kept : Bool
  annulment_kept = at.expected or (own under_AFBLE and at.first)

  -- (02, Req 02) "A mark is set when a section becomes occupied, unexpected by 01, while neither station has an exit route."
  abbrev pub stray : Bool
  stray = not at.expected and not any_exit_route

  -- "A new occupation sets the count to 0 and keeps the mark"
  abbrev pub watch_taken : Watch
  watch_taken = record { mark = mark or stray; count = 0 }

  abbrev pub taken : Situation
  taken = with_own_station (own annulled_by (if annulment_kept then own.annulment else no_annulment)) (with_track (record { occupied = track.occupied with_section k; watch = watch_taken }) x)

  -- "Separately, if k is s's first section, s is in, and the line was free, s becomes out and the other in"
  abbrev pub turns : Bool
  turns = at.first and own is_in and line_free

  abbrev pub occupied : Row
  occupied = 5 when (k belongs_to track.occupied) ┃ ⟶ reoriented_where turns out inward taken

  -- (02, Req 02) "When the last section clears with that mark set and no exit route set, a count of 10 starts."
  abbrev pub still_occupied : ℕ
  still_occupied = track.occupied without_section k

  abbrev pub count_starts : Bool
  count_starts = eqb still_occupied sections.none and mark and not any_exit_route

  abbrev pub first_count : ℕ
  first_count = 10

  abbrev pub watch_freed : Watch
  watch_freed = record { mark = mark; count = if count_starts then first_count else count }

  -- "Freed clears that section and nothing else", but for the count
  abbrev pub freed : Row
  freed = 5 when not (k belongs_to track.occupied) ┃ ⟶ with_track (record { occupied = still_occupied; watch = watch_freed }) x

  -- | 21, 22 | link lost, restored (argument 0) | 5 | see below |
  -- "Link lost leaves the orientations."
  abbrev pub link_lost : Row
  link_lost = 5 when link_down ┃ ⟶ with_link false x

  -- "Link restored: unless one is out and one in, both become none."
  abbrev pub link_restored : Row
  link_restored = 5 when link_up ┃ ⟶ reoriented_where (not (situation.one_out_one_in x)) none none (with_link true x)

  -- (02, Req 02) | 23 | one second passed (argument 0) | "always accepted" |
  -- "Each second lowers it; when that brings it to 0 the mark goes; with no count running a second changes nothing." (0 - 1 is 0)
  abbrev pub brings_to_0 : Bool
  brings_to_0 = situation.count_runs track.watch and eqb (count - 1) 0

  abbrev pub watch_lowered : Watch
  watch_lowered = record { mark = mark and not brings_to_0; count = count - 1 }

  abbrev pub second : Row
  second = ⟶ with_track (with_this_watch watch_lowered track) x
