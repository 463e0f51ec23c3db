-- A test over every situation, which antt computes, and the law that turns it into the rule at each. Assumes nothing.
use Prim.Native.Nat.{ℕ, zero, suc}
use mathlib.Core.Bool.{Bool, true, false, not}
use lib.Dec.{T}
use Rattle.words.specs.Words.{◌and◌, ◌or◌}
use Rattle.words.proofs.Tests.{and_at}
use Rattle.rulebook.specs.Sound.{station_sound, link_up_agrees, link_down_apart, pending_sound, stations_sound}
use Rattle.rulebook.specs.Situation.{Station, Situation}

-- the test k where v holds; k waits, so that nothing is computed where v fails
abbrev pub given : Bool → (Unit {0} → Bool) → Bool
given true k = k tt
given false k = true

abbrev pub both : Bool → (Unit {0} → Bool) → Bool
both true k = k tt
both false k = false

pub given_at : (v : Bool) (k : Unit {0} → Bool) → T (given v k) → T v → T (k tt)
given_at true k t h = t
given_at false k t h = absurd h

both_at : (v : Bool) (k : Unit {0} → Bool) → T (both v k) → T v × T (k tt)
both_at true k t = (tt, t)
both_at false k t = absurd t

-- a test of n bools, at every n of them
abbrev pub Test : ℕ → Type 0
Test zero = Bool
Test (suc n) = Bool → Test n

abbrev pub every : (n : ℕ) → Test n → Bool
every zero p = p
every (suc n) p = both (every n (p true)) (λ u. every n (p false))

abbrev pub At : (n : ℕ) → Test n → Type 0
At zero p = T p
At (suc n) p = (v : Bool) → At n (p v)

by_cases : (P : Bool → Type 0) → P true → P false → (v : Bool) → P v
by_cases P a b true = a
by_cases P a b false = b

pub every_at : (n : ℕ) (p : Test n) → T (every n p) → At n p
every_at zero p t = t
every_at (suc n) p t =
    let halves : T (every n (p true)) × T (every n (p false)) = both_at (every n (p true)) (λ u. every n (p false)) t in
    by_cases (λ v. At n (p v)) (every_at n (p true) halves.0) (every_at n (p false) halves.1)

-- the station of seven tests, its other fields t's
abbrev pub station : Station → Bool → Bool → Bool → Bool → Bool → Bool → Bool → Station
station t o i ai ae n s b = record { orientation = record { out = o; inward = i }; annulment = record { afbli = ai; afble = ae }; exit = record { normal = n; special = s }; entry = t.entry; bilc = b; bslg = t.bslg; reminder = t.reminder }

-- what is asked of orientation and annulment alone: asked first, so that little is computed
abbrev pub ways : Bool → Bool → Bool → Bool → Bool
ways o i ai ae = not (o and i) and not (ai and ae) and (not (ai or ae) or not (o or i))

-- every sound station that has t's other fields
abbrev pub at_routes : Station → (Station → Bool) → Bool → Bool → Bool → Bool → Test 3
at_routes t p o i ai ae n s b = given (station_sound (station t o i ai ae n s b)) (λ u. p (station t o i ai ae n s b))

abbrev pub at_ways : Station → (Station → Bool) → Test 4
at_ways t p o i ai ae = given (ways o i ai ae) (λ u. every 3 (at_routes t p o i ai ae))

abbrev pub every_station : Station → (Station → Bool) → Bool
every_station t p = every 4 (at_ways t p)

module _ (t : Station) where
  abbrev o : Bool
  o = t.orientation.out

  abbrev i : Bool
  i = t.orientation.inward

  abbrev ai : Bool
  ai = t.annulment.afbli

  abbrev ae : Bool
  ae = t.annulment.afble

  ways_of : T (station_sound t) → T (ways o i ai ae)
  ways_of =
      given_at (station_sound t) (λ u. ways o i ai ae)
      (every_at 7 (λ o i ai ae n s b. given (station_sound (station t o i ai ae n s b)) (λ u. ways o i ai ae)) tt
      o i ai ae t.exit.normal t.exit.special t.bilc)

  pub every_station_at : (p : Station → Bool) → T (every_station t p) → T (station_sound t) → T (p t)
  every_station_at p h ok =
      let routes : Test 3 = at_routes t p o i ai ae in
      given_at (station_sound t) (λ u. p t)
      (every_at 3 routes
      (given_at (ways o i ai ae) (λ u. every 3 routes) (every_at 4 (at_ways t p) h o i ai ae) (ways_of ok))
      t.exit.normal t.exit.special t.bilc)
      ok

abbrev pub situation : Situation → Station → Station → Bool → Bool → Bool → Situation
situation x own other link asking asked = record { traffic = record { link = link; own = own; other = other; pending = record { own = asking; other = asked }; track = x.traffic.track }; signals = x.signals }

-- p at every sound situation with the sets and the other fields of x
abbrev pub at_links : Situation → (Situation → Bool) → Station → Station → Test 3
at_links x p own other link asking asked =
    let y : Situation = situation x own other link asking asked in
    given (link_up_agrees y) (λ u. given (link_down_apart y) (λ v. given (pending_sound y) (λ w. p y)))

abbrev pub at_own_station : Situation → (Situation → Bool) → Station → Bool
at_own_station x p own = every_station x.traffic.other (λ other. every 3 (at_links x p own other))

abbrev pub everywhere : Situation → (Situation → Bool) → Bool
everywhere x p = every_station x.traffic.own (at_own_station x p)

-- what soundness says of stations, link and pending SOBB
pub record StationParts (x : Situation) : Type 0 where
  pub own : T (station_sound x.traffic.own)
  pub other : T (station_sound x.traffic.other)
  pub link_up : T (link_up_agrees x)
  pub link_down : T (link_down_apart x)
  pub pending : T (pending_sound x)

pub station_parts : (x : Situation) → T (stations_sound x) → StationParts x
station_parts x ok =
    let a : Bool = station_sound x.traffic.own in
    let b : Bool = station_sound x.traffic.other in
    let u : Bool = link_up_agrees x in
    let d : Bool = link_down_apart x in
    let s₁ = and_at (a and b and u and d) (pending_sound x) ok in
    let s₂ = and_at (a and b and u) d s₁.0 in
    let s₃ = and_at (a and b) u s₂.0 in
    let s₄ = and_at a b s₃.0 in
    record { own = s₄.0; other = s₄.1; link_up = s₃.1; link_down = s₂.1; pending = s₁.1 }

pub everywhere_at : (p : Situation → Bool) (x : Situation) → T (everywhere x p) → T (stations_sound x) → T (p x)
everywhere_at p x h ok =
    let s = station_parts x ok in
    let d : Bool = link_down_apart x in
    let q : Bool = pending_sound x in
    given_at q (λ w. p x)
    (given_at d (λ v. given q (λ w. p x))
    (given_at (link_up_agrees x) (λ u. given d (λ v. given q (λ w. p x)))
    (every_at 3 (at_links x p x.traffic.own x.traffic.other)
    (every_station_at x.traffic.other (λ t. every 3 (at_links x p x.traffic.own t)) (every_station_at x.traffic.own (at_own_station x p) h s.own) s.other)
    x.traffic.link x.traffic.pending.own x.traffic.pending.other)
    s.link_up)
    s.link_down)
    s.pending
