-- What each event writes and what it leaves, of every kind of the table: each law is an equation of two lists that antt computes.
-- Where a new event writes a field that stands here, its code joins that law; else nothing is added. Assumes nothing.
use Rattle.std.specs.Prelude.{if◌then◌else◌}
use Prim.Native.Nat.{ℕ}
use mathlib.Core.Bool.{Bool, true, false, not}
use mathlib.Core.Path.{◌≡◌, refl, ap}
use lib.Dec.{T, eqb}
use Rattle.words.specs.Words.{◌and◌, ◌or◌}
use Rattle.words.proofs.Tests.{and_at}
use Rattle.sections.specs.Sections.{◌with_section◌, ◌without_section◌}
use Rattle.rulebook.specs.Checks.{effect}
use Rattle.rulebook.specs.Place.{Place}
use Rattle.rulebook.specs.Situation.{Station, Track, Signals, Situation, no_annulment, own_sobb, no_watch, with_this_watch, with_held_signals, held_towards, with_held_towards, any_exit_route, ◌annulled, ◌annulled_by◌, ◌has_exit_route}
use Rattle.rulebook.specs.Events.{annulment_kept, watch_taken, still_occupied, watch_freed, watch_lowered}
use Rattle.rulebook.specs.Table.{Kind, Sobb, Dafbl, Bilc, Dilc, Bslg, BslgOff, Bslb, BslbOff, ExitNormal, ExitSpecial, ExitReleased, Occupied, Freed, Second, table, section, signal, kind_of}
use Rattle.rulebook.specs.Laws.{AFBLI_or_AFBLE}
use Rattle.block.specs.declared.codes.Pending.{Pending}
use Rattle.rulebook.proofs.InTable.{All, Known, each_all, by_equation, by_test, at_code}

-- ---- what an event does to the track and to the exit routes: nothing else writes them
pub data Touch : Type 0 where
  sets_route : Touch
  releases_route : Touch
  takes : Touch
  frees : Touch
  lowers : Touch
  leaves : Touch

abbrev pub touch : ℕ → Touch
touch code =
    if eqb code ExitNormal.code or eqb code ExitSpecial.code then sets_route else
    if eqb code ExitReleased.code then releases_route else
    if eqb code Occupied.code then takes else
    if eqb code Freed.code then frees else
    if eqb code Second.code then lowers else
    leaves

abbrev pub of_section : Touch → Bool
of_section sets_route = false
of_section releases_route = false
of_section takes = true
of_section frees = true
of_section lowers = false
of_section leaves = false

abbrev pub track_after : Touch → Place → Situation → Track
track_after sets_route at x = with_this_watch no_watch x.traffic.track
track_after releases_route at x = x.traffic.track
track_after takes at x = record { occupied = x.traffic.track.occupied with_section at.section; watch = watch_taken at x }
track_after frees at x = record { occupied = still_occupied at x; watch = watch_freed at x }
track_after lowers at x = with_this_watch (watch_lowered at x) x.traffic.track
track_after leaves at x = x.traffic.track

abbrev pub routed_after : Touch → Situation → Bool
routed_after sets_route x = true
routed_after releases_route x = x.traffic.other has_exit_route
routed_after takes x = any_exit_route x
routed_after frees x = any_exit_route x
routed_after lowers x = any_exit_route x
routed_after leaves x = any_exit_route x

-- ---- "BSLB, its release": nothing else writes the signals
abbrev pub of_signal : ℕ → Bool
of_signal code = eqb code Bslb.code or eqb code BslbOff.code

abbrev pub held_after : ℕ → ℕ → ℕ → ℕ
held_after code k m = if eqb code Bslb.code then m with_section k else m without_section k

abbrev pub signals_after : ℕ → Place → Signals → Signals
signals_after code at s =
    if of_signal code
    then with_held_signals (with_held_towards at.direction (held_after code at.section (held_towards at.direction s.held)) s.held) s
    else s

-- ---- (02, Req 05) what 2012 keeps apart of a station: whether it is annulled, BILC and BSLG. What an event does to own's; it leaves the other's
pub record Orders : Type 0 where
  pub annulment : Bool
  pub bilc : Bool
  pub bslg : Bool

abbrev pub orders : Station → Orders
orders t = record { annulment = t annulled; bilc = t.bilc; bslg = t.bslg }

pub data Order : Type 0 where
  annuls : Order
  lifts : Order
  writes_bilc : Bool → Order
  writes_bslg : Bool → Order
  may_lift : Order
  orders_nothing : Order

abbrev pub order : ℕ → Order
order code =
    if AFBLI_or_AFBLE code then annuls else
    if eqb code Dafbl.code then lifts else
    if eqb code Bilc.code then writes_bilc true else
    if eqb code Dilc.code then writes_bilc false else
    if eqb code Bslg.code then writes_bslg true else
    if eqb code BslgOff.code then writes_bslg false else
    if eqb code Occupied.code then may_lift else
    orders_nothing

-- own, as an unexpected occupation leaves it
abbrev pub perhaps_lifted : Place → Situation → Station
perhaps_lifted at x = x.traffic.own annulled_by (if annulment_kept at x then x.traffic.own.annulment else no_annulment)

module _ (at : Place) (x : Situation) where
  abbrev own : Orders
  own = orders x.traffic.own

  abbrev pub orders_after : Order → Orders
  orders_after annuls = record { annulment = true; bilc = own.bilc; bslg = own.bslg }
  orders_after lifts = record { annulment = false; bilc = own.bilc; bslg = own.bslg }
  orders_after (writes_bilc v) = record { annulment = own.annulment; bilc = v; bslg = own.bslg }
  orders_after (writes_bslg v) = record { annulment = own.annulment; bilc = own.bilc; bslg = v }
  orders_after may_lift = record { annulment = perhaps_lifted at x annulled; bilc = own.bilc; bslg = own.bslg }
  orders_after orders_nothing = own

-- ---- of one event, at a place
pub record Framed (e : Kind) (at : Place) (x : Situation) : Type 0 where
  pub track : (effect (e.row at x)).traffic.track ≡ track_after (touch e.code) at x
  pub routed : any_exit_route (effect (e.row at x)) ≡ routed_after (touch e.code) x
  pub signals : (effect (e.row at x)).signals ≡ signals_after e.code at x.signals
  pub own : orders (effect (e.row at x)).traffic.own ≡ orders_after at x (order e.code)
  pub other : orders (effect (e.row at x)).traffic.other ≡ orders x.traffic.other
  -- no row writes pending but SOBB's
  pub pending : (effect (e.row at x)).traffic.pending ≡ (if eqb e.code Sobb.code then own_sobb else x.traffic.pending)

-- ---- of all: what stands left and right above, computed for the whole table
abbrev Of : Type 0 → Type 0
Of X = Kind → Place → Situation → X

frame : {X : Type 0} (f g : Of X) → All (λ e. f e ≡ g e) table → (c : ℕ) → Known c → (at : Place) (x : Situation) → f (kind_of c) at x ≡ g (kind_of c) at x
frame f g a c ok at x = ap (λ h. h at x) (at_code (λ e. f e ≡ g e) a c ok)

pub framed : (c : ℕ) → Known c → (at : Place) (x : Situation) → Framed (kind_of c) at x
framed c ok at x =
    let track : Of Track = λ e at x. (effect (e.row at x)).traffic.track in
    let track' : Of Track = λ e. track_after (touch e.code) in
    let routed : Of Bool = λ e at x. any_exit_route (effect (e.row at x)) in
    let routed' : Of Bool = λ e at x. routed_after (touch e.code) x in
    let signals : Of Signals = λ e at x. (effect (e.row at x)).signals in
    let signals' : Of Signals = λ e at x. signals_after e.code at x.signals in
    let own : Of Orders = λ e at x. orders (effect (e.row at x)).traffic.own in
    let own' : Of Orders = λ e at x. orders_after at x (order e.code) in
    let other : Of Orders = λ e at x. orders (effect (e.row at x)).traffic.other in
    let other' : Of Orders = λ e at x. orders x.traffic.other in
    let pending : Of Pending = λ e at x. (effect (e.row at x)).traffic.pending in
    let pending' : Of Pending = λ e at x. if eqb e.code Sobb.code then own_sobb else x.traffic.pending in
    record {
      track = frame track track' (by_equation track track' table refl) c ok at x;
      routed = frame routed routed' (by_equation routed routed' table refl) c ok at x;
      signals = frame signals signals' (by_equation signals signals' table refl) c ok at x;
      own = frame own own' (by_equation own own' table refl) c ok at x;
      other = frame other other' (by_equation other other' table refl) c ok at x;
      pending = frame pending pending' (by_equation pending pending' table refl) c ok at x;
    }

-- ---- what the arguments of those codes name
abbrev agree : Kind → Bool
agree e = (not (of_section (touch e.code)) or eqb e.argument section) and (not (of_signal e.code) or eqb e.argument signal)

pub record Kinds (e : Kind) : Type 0 where
  pub taken : T (of_section (touch e.code)) → T (eqb e.argument section)
  pub held : T (of_signal e.code) → T (eqb e.argument signal)

implied : (a b : Bool) → T (not a or b) → T a → T b
implied true b t h = t
implied false b t h = absurd h

pub kinds : (c : ℕ) → Known c → Kinds (kind_of c)
kinds =
    at_code Kinds
    (each_all (λ e. T (agree e)) Kinds
    (λ e t.
    let h = and_at (not (of_section (touch e.code)) or eqb e.argument section) (not (of_signal e.code) or eqb e.argument signal) t in
    record { taken = implied (of_section (touch e.code)) (eqb e.argument section) h.0; held = implied (of_signal e.code) (eqb e.argument signal) h.1 })
    table (by_test agree table tt))
