-- What is proved of every event of the block: each law as a statement, proved under the same name in proofs/.
use Rattle.std.specs.Prelude.{ℕ, zero, suc, ◌-◌, ◌<◌, Bool, true, false, not, List, [], ◌∷◌, ◌⊎◌, ◌≡◌, T, eqb, if◌then◌else◌}
use Rattle.std.specs.Bool.{beq}
use Rattle.words.specs.Words.{◌and◌, ◌or◌}
use Rattle.sections.specs.Sections.{◌belongs_to◌, only}
use Rattle.block.specs.Line.{is_plan, is_section, owner, opposite}
use Rattle.rulebook.specs.Situation.{Station, Situation, Kept, area_direction, fresh, nobody, seen_from, kept_from, station, held, any_exit_route, both_out, none_occupied, count_runs, track_free, line_free, with_stations, with_track, with_this_watch, normal, special, ◌is_out, ◌is_in, ◌is_none, ◌annulled, ◌under_AFBLI, ◌under_AFBLE, ◌has_exit_route}
use Rattle.rulebook.specs.Sound.{station_sound, sound_in_2024, sound}
use Rattle.rulebook.specs.Checks.{Row, ⟶◌, ◌┃◌, ◌when◌, enough_when◌}
use Rattle.rulebook.specs.Place.{Place, expected}
use Rattle.rulebook.specs.Events.{exit}
use Rattle.rulebook.specs.Table.{Kind, kind, keeps, Sobb, Cobb, Afbli, Afble, Dafbl, Bilc, Dilc, Bslg, BslgOff, Bslb, BslbOff, Reminder, ReminderOff, ExitNormal, ExitSpecial, ExitReleased, Entry, EntryReleased, Occupied, Freed, LinkLost, LinkRestored, Second, kind_of}
use Rattle.rulebook.specs.Apply.{refuses, leads, event, known, argument_right, spot, own_refusal, reached, refused, stepped, applied, Outcome, along, after_events}
use Rattle.rulebook.specs.Editions.{kind_in_2024, stepped_by, added_in_2012}
use Rattle.rulebook.specs.Names.{station_argument, name}
use Rattle.block.specs.declared.line.Plan.{Plan}
use Rattle.block.specs.declared.line.Name.{Name}
use Rattle.block.specs.declared.line.Name.TheVariants.{StationA, StationB}
use Rattle.block.specs.declared.line.Direction.{Direction}
use Rattle.block.specs.declared.event.Event.{Event}
use Rattle.block.specs.declared.event.Spot.{Spot}
use Rattle.block.specs.declared.codes.Orientation.{Orientation}
use Rattle.block.specs.declared.codes.Pending.{Pending}

-- "Every accepted event leads from a sound situation to a sound one"; a refused one hands it back
abbrev pub SoundnessKept : Type 0
SoundnessKept = (p : Plan) → T (is_plan p) → (x : Kept) (e : Event) → T (sound p x) → T (sound p (applied p x e).next)

-- so of what the methods hand back, which own sees, kept again: sound wherever the event is accepted in a sound situation
abbrev pub MethodsSound : Type 0
MethodsSound =
    (p : Plan) → T (is_plan p) → (x : Kept) (e : Event) → T (sound p x) → T (known e) → T (argument_right p e) →
    let kind = kind_of e.code in
    let at = spot p e in
    let seen = seen_from at.own x in
    refuses kind at seen ≡ 0 → T (sound p (kept_from at.own (leads kind at seen)))

-- "The fresh one: link 1, all else 0." It is sound
abbrev pub FreshSound : Type 0
FreshSound = (p : Plan) → T (sound p fresh)

-- "a refused event hands the situation back unchanged"
abbrev pub RefusedUnchanged : Type 0
RefusedUnchanged = (p : Plan) (x : Kept) (e : Event) → ((applied p x e).refusal ≡ 0 → ⊥) → (applied p x e).next ≡ x

-- no event is refused always: in either edition each has a sound situation in which it is accepted
pub record Accepted (rules2012 : Bool) (c : ℕ) : Type 0 where
  pub plan : Plan
  pub of_edition : plan.rules2012 ≡ rules2012
  pub situation : Kept
  pub argument : ℕ
  pub is_a_plan : T (is_plan plan)
  pub is_sound : T (sound plan situation)
  pub is_accepted : (applied plan situation (event c argument)).refusal ≡ 0

abbrev pub AcceptedSomewhere : Type 0
AcceptedSomewhere = (rules2012 : Bool) (e : Event) → T (known e) → Accepted rules2012 e.code

-- ---- an accepted event does what it says: it was not so before, and it is so after; x is the situation as own sees it. A second that passes
-- changes nothing where no count runs: it is left out here, and WatchRule says what it does
pub record Deed : Type 0 where
  pub kind : Kind
  pub so : Spot → Situation → Bool

abbrev deed : Kind → (Spot → Situation → Bool) → Deed
deed k s = record { kind = k; so = s }

abbrev pub deeds : List Deed
deeds =
    deed Sobb (λ at x. x.traffic.pending.own)
    ∷ deed Cobb (λ at x. x.traffic.other is_out and x.traffic.own is_in)
    ∷ deed Afbli (λ at x. x.traffic.own under_AFBLI)
    ∷ deed Afble (λ at x. x.traffic.own under_AFBLE)
    ∷ deed Dafbl (λ at x. not (x.traffic.own annulled))
    ∷ deed Bilc (λ at x. x.traffic.own.bilc)
    ∷ deed Dilc (λ at x. not x.traffic.own.bilc)
    ∷ deed Bslg (λ at x. x.traffic.own.bslg)
    ∷ deed BslgOff (λ at x. not x.traffic.own.bslg)
    ∷ deed Bslb (λ at x. at.section belongs_to held x at.direction)
    ∷ deed BslbOff (λ at x. not (at.section belongs_to held x at.direction))
    ∷ deed Reminder (λ at x. x.traffic.own.reminder)
    ∷ deed ReminderOff (λ at x. not x.traffic.own.reminder)
    ∷ deed ExitNormal (λ at x. x.traffic.own.exit.normal)
    ∷ deed ExitSpecial (λ at x. x.traffic.own.exit.special)
    ∷ deed ExitReleased (λ at x. not (x.traffic.own has_exit_route))
    ∷ deed Entry (λ at x. x.traffic.own.entry)
    ∷ deed EntryReleased (λ at x. not x.traffic.own.entry)
    ∷ deed Occupied (λ at x. at.section belongs_to x.traffic.track.occupied)
    ∷ deed Freed (λ at x. not (at.section belongs_to x.traffic.track.occupied))
    ∷ deed LinkLost (λ at x. not x.traffic.link)
    ∷ deed LinkRestored (λ at x. x.traffic.link)
    ∷ []

-- what the event of a code says it does
abbrev pub says : ℕ → List Deed → Spot → Situation → Bool
says c [] at x = false
says c (d ∷ rest) at x = if eqb c d.kind.code then d.so at x else says c rest at x

abbrev pub so_at : Plan → Event → Kept → Bool
so_at p e x = says e.code deeds (spot p e) (seen_from (spot p e).own x)

abbrev pub a_second_passed : ℕ → Bool
a_second_passed code = eqb code Second.code

abbrev pub EventsDo : Type 0
EventsDo =
    (p : Plan) → T (is_plan p) → (x : Kept) (e : Event) → T (sound p x) → T (not (a_second_passed e.code)) →
    (applied p x e).refusal ≡ 0 → (so_at p e x ≡ false) × (so_at p e (applied p x e).next ≡ true)

-- so an accepted event changes the situation, but for a second that passes
abbrev pub EventsChange : Type 0
EventsChange =
    (p : Plan) → T (is_plan p) → (x : Kept) (e : Event) → T (sound p x) → T (not (a_second_passed e.code)) →
    (applied p x e).refusal ≡ 0 → (applied p x e).next ≡ x → ⊥

-- ---- "Pending is cleared by any orientation change, any accepted AFBLI/AFBLE, any section becoming occupied, and link loss."
abbrev pub same : Orientation → Orientation → Bool
same o p = beq o.out p.out and beq o.inward p.inward

abbrev pub any_orientation_change : Situation → Situation → Bool
any_orientation_change x y = not (same x.traffic.own.orientation y.traffic.own.orientation) or not (same x.traffic.other.orientation y.traffic.other.orientation)

abbrev pub AFBLI_or_AFBLE : ℕ → Bool
AFBLI_or_AFBLE code = eqb code Afbli.code or eqb code Afble.code

abbrev pub section_becoming_occupied : ℕ → Bool
section_becoming_occupied code = eqb code Occupied.code

abbrev pub link_loss : ℕ → Bool
link_loss code = eqb code LinkLost.code

-- "pending SOBB: 0 none, 1 asked by A, 2 by B", the situation being kept as A sees it
abbrev pub asked_by : Name → Pending
asked_by StationA = record { own = true; other = false }
asked_by StationB = record { own = false; other = true }

-- nothing else but SOBB writes it
abbrev pub pending_after : ℕ → Name → Situation → Situation → Pending
pending_after code own x y =
    if any_orientation_change x y or (AFBLI_or_AFBLE code or section_becoming_occupied code or link_loss code) then nobody else
    if eqb code Sobb.code then asked_by own else
    x.traffic.pending

abbrev pub PendingRule : Type 0
PendingRule =
    (p : Plan) (x : Kept) (e : Event) →
    (applied p x e).refusal ≡ 0 → (applied p x e).next.traffic.pending ≡ pending_after e.code (spot p e).own x (applied p x e).next

-- an area has at most one direction
abbrev pub OneDirection : Type 0
OneDirection = (t : Station) → T (station_sound t) → T (not ((area_direction t).out and (area_direction t).inward))

-- in no sound situation are both stations oriented out
abbrev pub NotBothOut : Type 0
NotBothOut = (p : Plan) (x : Situation) → T (sound p x) → both_out x ≡ false

-- ---- events one after the other
-- any events, refused ones included, lead from a sound situation to a sound one
abbrev pub SoundAfter : Type 0
SoundAfter = (p : Plan) → T (is_plan p) → (x : Kept) → T (sound p x) → (events : List Event) → T (sound p (after_events p x events))

-- along every run from a sound situation an event is judged as if plan and situation were judged again each time
abbrev pub StepsAgree : Type 0
StepsAgree = (p : Plan) → T (is_plan p) → (x : Kept) → T (sound p x) → (events : List Event) → along (stepped p) x events ≡ along (applied p) x events

-- ---- "Refusal 5 means that it is already so, or there is nothing to undo.": what the event does is so already; of an exit route, that there is one
abbrev pub so_already : ℕ → Spot → Situation → Bool
so_already c at x =
    if eqb c ExitNormal.code or eqb c ExitSpecial.code then x.traffic.own has_exit_route else says c deeds at x

abbrev pub FiveMeans : Type 0
FiveMeans = (p : Plan) (x : Kept) (e : Event) → T (known e) → own_refusal p x e ≡ 5 → so_already e.code (spot p e) (seen_from (spot p e).own x) ≡ true

-- ---- of AFBLI and AFBLE: "The other station's orders never matter", nor anything else of the other station
abbrev pub OthersNeverMatter : Type 0
OthersNeverMatter =
    (at : Spot) (x : Situation) (other : Station) →
    let y = with_stations x.traffic.own other x in
    (refuses Afbli at y ≡ refuses Afbli at x) × (refuses Afble at y ≡ refuses Afble at x)

-- ---- (02, Req 01) 13 and 15 tell apart what document 01 has as one check: its rows 14 and 15, with the free line and the cleared count of Req 02
module _ (at : Place) (x : Situation) where
  abbrev own : Station
  own = x.traffic.own

  -- | 14 | exit route, normal | 5 one is set; 11 BILC; 8 annulled; 14 reminder; 6; 12 own none; 13 own is in and line not free |
  abbrev pub exit_normal_in_01 : Row
  exit_normal_in_01 =
      5 when own has_exit_route
      ┃ 11 when own.bilc
      ┃ 8 when own annulled
      ┃ 14 when own.reminder
      ┃ 6 when not x.traffic.link
      ┃ 12 when own is_none
      ┃ 13 when own is_in and not (line_free x)
      ┃ ⟶ exit at x normal

  -- | 15 | exit route, special | as 14 without 14; with AFBLE only 5 and 11 are checked |
  abbrev pub exit_special_in_01 : Row
  exit_special_in_01 =
      5 when own has_exit_route
      ┃ 11 when own.bilc
      ┃ enough_when own under_AFBLE
      ┃ 8 when own annulled
      ┃ 6 when not x.traffic.link
      ┃ 12 when own is_none
      ┃ 13 when own is_in and not (line_free x)
      ┃ ⟶ exit at x special

-- the table with these two rows
abbrev pub kind_in_01 : Kind → Kind
kind_in_01 k =
    if eqb k.code ExitNormal.code then kind ExitNormal.code ExitNormal.argument keeps exit_normal_in_01 else
    if eqb k.code ExitSpecial.code then kind ExitSpecial.code ExitSpecial.argument keeps exit_special_in_01 else
    k

abbrev pub stepped_in_01 : Plan → Kept → Event → Outcome
stepped_in_01 = stepped_by kind_in_01

-- the refusal's number where 13 and 15 are one check: 13 where it is 15 now
abbrev pub number_in_01 : ℕ → ℕ
number_in_01 r = if eqb r 15 then 13 else r

-- every event is accepted where it was, leads where it led, and is refused with the number that it had, but that 15 was 13
abbrev pub RefusedAsIn01 : Type 0
RefusedAsIn01 = (p : Plan) (x : Kept) (e : Event) → stepped_in_01 p x e ≡ record { refusal = number_in_01 (stepped p x e).refusal; next = (stepped p x e).next }

-- ---- (02, Req 01) what refusals name
-- "13 stays for an occupied section and now names the lowest occupied one"
pub record LowestOccupied (p : Plan) (x : Kept) (k : ℕ) : Type 0 where
  pub on_the_line : T (is_section p k)
  pub is_occupied : (k belongs_to x.traffic.track.occupied) ≡ true
  pub none_below : (j : ℕ) → j < k → (j belongs_to x.traffic.track.occupied) ≡ false

-- (02, Req 02) "a running count alone gives 13 with section 0"
pub record CountAlone (x : Kept) (k : ℕ) : Type 0 where
  pub nothing_occupied : none_occupied x.traffic.track ≡ true
  pub running : count_runs x.traffic.track.watch ≡ true
  pub section_0 : k ≡ 0

abbrev pub ThirteenNames : Type 0
ThirteenNames = (p : Plan) (x : Kept) (e : Event) → (applied p x e).refusal ≡ 13 → LowestOccupied p x (name p x e 13) ⊎ CountAlone x (name p x e 13)

-- "15 is for a free track with an exit route at the other station", own being in
pub record OtherRoute (x : Kept) (own : Name) : Type 0 where
  pub own_is_in : (station x own is_in) ≡ true
  pub track_is_free : track_free x.traffic.track ≡ true
  pub other_has_route : (station x (opposite own) has_exit_route) ≡ true

abbrev pub FifteenMeans : Type 0
FifteenMeans = (p : Plan) (x : Kept) (e : Event) → (applied p x e).refusal ≡ 15 → OtherRoute x (spot p e).own

-- "Refusal 9 names the station that holds the route, own where own is checked, else A first if both do."
pub record RouteHolder (x : Kept) (e : Event) (n : ℕ) : Type 0 where
  pub holder : Name
  pub is_named : n ≡ station_argument holder
  pub has_route : (station x holder has_exit_route) ≡ true
  pub own_where_checked : T (eqb e.code Afbli.code or eqb e.code Afble.code or eqb e.code Bilc.code) → n ≡ e.argument
  pub else_A_first : T (eqb e.code Sobb.code or eqb e.code Cobb.code) → (station x StationA has_exit_route) ≡ true → n ≡ 0

abbrev pub NineNames : Type 0
NineNames = (p : Plan) (x : Kept) (e : Event) → (applied p x e).refusal ≡ 9 → RouteHolder x e (name p x e 9)

-- every other number names nothing
abbrev pub OthersNameNothing : Type 0
OthersNameNothing = (p : Plan) (x : Kept) (e : Event) (r : ℕ) → (r ≡ 13 → ⊥) → (r ≡ 9 → ⊥) → name p x e r ≡ 0

-- ---- (02, Req 02) "Add event 23, one second passed, argument 0, always accepted."
abbrev pub one_second : Event
one_second = event Second.code 0

abbrev pub SecondAccepted : Type 0
SecondAccepted = (p : Plan) → T (is_plan p) → (x : Kept) → T (sound p x) → (applied p x one_second).refusal ≡ 0

-- "with no count running a second changes nothing"
abbrev pub SecondQuiet : Type 0
SecondQuiet = (p : Plan) (x : Kept) → count_runs x.traffic.track.watch ≡ false → (applied p x one_second).next ≡ x

-- of all else it changes nothing; WatchRule says what becomes of mark and count
abbrev pub SecondsTouchTheWatch : Type 0
SecondsTouchTheWatch =
    (p : Plan) (x : Kept) →
    let y = (applied p x one_second).next in
    y ≡ with_track (with_this_watch y.traffic.track.watch x.traffic.track) x

-- "argument 0"
abbrev pub SecondsArgument : Type 0
SecondsArgument =
    (p : Plan) → T (is_plan p) → (x : Kept) → T (sound p x) → (argument : ℕ) → (argument ≡ 0 → ⊥) → applied p x (event Second.code argument) ≡ refused 4 x

-- ---- "While it runs the line is not free .. for automatic reorientation": a section that becomes occupied turns no orientation
abbrev pub CountKeepsLine : Type 0
CountKeepsLine = (x : Kept) → count_runs x.traffic.track.watch ≡ true → line_free x ≡ false

abbrev pub CountKeepsOrientations : Type 0
CountKeepsOrientations =
    (p : Plan) (x : Kept) (section : ℕ) → count_runs x.traffic.track.watch ≡ true → (s : Name) →
    (station (applied p x (event Occupied.code section)).next s).orientation ≡ (station x s).orientation

-- ---- the mark is set exactly by an unexpected occupation with no exit route, and goes exactly by the last second or an accepted exit route
abbrev pub exit_route_set : ℕ → Bool
exit_route_set code = eqb code ExitNormal.code or eqb code ExitSpecial.code

-- "a section becomes occupied, unexpected by 01, while neither station has an exit route"
module _ (p : Plan) (x : Kept) (e : Event) where
  abbrev pub unexpected : Bool
  unexpected = let at : Spot = spot p e in not (expected p at.own at.section (seen_from at.own x))

  -- "an accepted exit route clears both"; "A new occupation .. keeps the mark"; "when that brings it to 0 the mark goes"
  abbrev pub mark_after : Bool
  mark_after =
      if exit_route_set e.code then false else
      if section_becoming_occupied e.code then x.traffic.track.watch.mark or (unexpected and not (any_exit_route x)) else
      if a_second_passed e.code then x.traffic.track.watch.mark and not (eqb x.traffic.track.watch.count 1) else
      x.traffic.track.watch.mark

-- and what becomes of the count: "an accepted exit route clears both"; "A new occupation sets the count to 0"; "When the last section clears with
-- that mark set and no exit route set, a count of 10 starts"; "Each second lowers it"; y is where it leads
abbrev pub last_section_clears : ℕ → Kept → Bool
last_section_clears code y = eqb code Freed.code and none_occupied y.traffic.track

abbrev pub count_after : ℕ → Kept → Kept → ℕ
count_after code x y =
    if exit_route_set code or section_becoming_occupied code then 0 else
    if last_section_clears code y and x.traffic.track.watch.mark and not (any_exit_route x) then 10 else
    if a_second_passed code then x.traffic.track.watch.count - 1 else
    x.traffic.track.watch.count

abbrev pub WatchRule : Type 0
WatchRule =
    (p : Plan) (x : Kept) (e : Event) →
    (applied p x e).refusal ≡ 0 →
    let y = (applied p x e).next in
    y.traffic.track.watch ≡ record { mark = mark_after p x e; count = count_after e.code x y }

-- ---- the ten seconds: one section is occupied, the mark set, link up and no exit route set; it is freed, and then so many seconds pass
abbrev pub seconds : ℕ → Plan → Kept → Kept
seconds zero p x = x
seconds (suc k) p x = (applied p (seconds k p x) one_second).next

pub record MarkedWithOneLeft (p : Plan) (x : Kept) (k : ℕ) : Type 0 where
  pub is_a_plan : T (is_plan p)
  pub is_sound : T (sound p x)
  pub is_section : T (is_section p k)
  pub is_marked : x.traffic.track.watch.mark ≡ true
  pub link_up : x.traffic.link ≡ true
  pub no_exit_route : any_exit_route x ≡ false
  pub alone_occupied : x.traffic.track.occupied ≡ only k

abbrev pub TenSeconds : Type 0
TenSeconds =
    (p : Plan) (x : Kept) (k : ℕ) → MarkedWithOneLeft p x k →
    let freed = (applied p x (event Freed.code k)).next in
    ((j : ℕ) → j < 10 → (line_free (seconds j p freed) ≡ false) × ((seconds j p freed).traffic.track.watch.count ≡ 10 - j))
    × (line_free (seconds 10 p freed) ≡ true) × ((seconds 10 p freed).traffic.track.watch.mark ≡ false)

-- ---- (02, Req 05) "LB means 2024": by the four rows without the checks of 2012, and by soundness without its clause
module _ (p : Plan) (x : Kept) where
  abbrev pub judged_in_2024 : ℕ
  judged_in_2024 = if is_plan p then (if sound_in_2024 p x then 0 else 2) else 1

  abbrev pub applied_in_2024 : Event → Outcome
  applied_in_2024 e = if eqb judged_in_2024 0 then stepped_by kind_in_2024 p x e else refused judged_in_2024 x

-- in a plan of 2024 every event gives on every situation what it gives by these
abbrev pub In2024AsBefore : Type 0
In2024AsBefore = (p : Plan) → p.rules2012 ≡ false → (x : Kept) (e : Event) → applied p x e ≡ applied_in_2024 p x e

-- the same line by the rules of 2024
abbrev pub in_2024 : Plan → Plan
in_2024 p = record { sections = p.sections; frontier = p.frontier; rules2012 = false }

-- in 2012 an event is refused for what it is refused for in 2024; what the sentence adds comes after; and it leads where it leads in 2024
pub record Added (p : Plan) (x : Kept) (e : Event) : Type 0 where
  pub refused_so : own_refusal p x e ≡ (if eqb (own_refusal (in_2024 p) x e) 0 then added_in_2012 p x e else own_refusal (in_2024 p) x e)
  pub leads_as_ever : reached p x e ≡ reached (in_2024 p) x e

abbrev pub AddedIn2012 : Type 0
AddedIn2012 = (p : Plan) → p.rules2012 ≡ true → (x : Kept) (e : Event) → Added p x e

-- ---- "Under 2012, AFBLI and AFBLE exclude BILC, BSLG and any BSLB in the station's own area, whichever comes first."
pub record Excludes (p : Plan) (x : Kept) (s : Name) : Type 0 where
  pub no_bilc : (station x s).bilc ≡ false
  pub no_bslg : (station x s).bslg ≡ false
  pub no_bslb : (k : ℕ) → is_section p k ≡ true → owner p k ≡ s → (d : Direction) → (k belongs_to held x d) ≡ false

abbrev pub AnnulledExclude : Plan → Kept → Type 0
AnnulledExclude p x = (s : Name) → (station x s annulled) ≡ true → Excludes p x s

-- "In that edition a situation with such a pair is not sound.", and every other one that is sound in 2024 is
pub record SoundExactly (p : Plan) (x : Kept) : Type 0 where
  pub excludes : T (sound p x) → T (sound (in_2024 p) x) × AnnulledExclude p x
  pub enough : T (sound (in_2024 p) x) → AnnulledExclude p x → T (sound p x)

abbrev pub SoundIn2012 : Type 0
SoundIn2012 = (p : Plan) → p.rules2012 ≡ true → (x : Kept) → SoundExactly p x

-- no events from a sound situation, refused ones included, lead to an annulled station with one of them
abbrev pub WhicheverComesFirst : Type 0
WhicheverComesFirst =
    (p : Plan) → T (is_plan p) → p.rules2012 ≡ true → (x : Kept) → T (sound p x) → (events : List Event) → AnnulledExclude p (after_events p x events)
