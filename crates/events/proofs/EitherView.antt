-- What refuses an event of a section or of a signal in 2024, and where one leads that leaves the stations, is the same as either station sees it.
-- Assumes nothing.
use Rattle.std.specs.Prelude.{if◌then◌else◌}
use Prim.Native.Nat.{ℕ}
use mathlib.Core.Bool.{Bool, not}
use mathlib.Core.Path.{◌≡◌, refl, sym, ap, ◌∙◌}
use lib.Dec.{eqb}
use Rattle.words.specs.Words.{◌and◌}
use Rattle.words.proofs.Tests.{or_turned}
use Rattle.sections.specs.Sections.{none, ◌with_section◌, ◌without_section◌}
use Rattle.rulebook.specs.Situation.{Situation, Kept, seen_from, kept_from, held, with_held, with_track, ◌has_exit_route}
use Rattle.rulebook.specs.Place.{place}
use Rattle.rulebook.specs.Events.{still_occupied, watch_freed}
use Rattle.rulebook.specs.Table.{Kind, Bslb, BslbOff, Occupied, Freed}
use Rattle.rulebook.specs.Apply.{refuses, leads, refusal_at, led_at}
use Rattle.rulebook.specs.Editions.{kind_in_2024}
use Rattle.block.specs.declared.line.Name.{Name}
use Rattle.block.specs.declared.line.Name.TheVariants.{StationA, StationB}
use Rattle.block.specs.declared.event.Spot.{Spot}
use Rattle.rulebook.proofs.Settled.{stays}

-- a refusal that the view does not change
abbrev Seen_alike : Kind → Spot → Kept → Type 0
Seen_alike e at x = (s : Name) → refuses e at (seen_from s x) ≡ refuses e at x

from_either : (e : Kind) (at : Spot) (x : Kept) → Seen_alike e at x → {r : ℕ} → r ≡ refuses e at x → r ≡ refusal_at e at x
unfolding refusal_at
from_either e at x alike h = h ∙ sym (alike at.own)

module _ (at : Spot) (x : Kept) where
  bslb_alike : Seen_alike (kind_in_2024 Bslb) at x
  bslb_alike StationA = refl
  bslb_alike StationB = refl

  bslb_off_alike : Seen_alike BslbOff at x
  bslb_off_alike StationA = refl
  bslb_off_alike StationB = refl

  occupied_alike : Seen_alike Occupied at x
  occupied_alike StationA = refl
  occupied_alike StationB = refl

  freed_alike : Seen_alike Freed at x
  freed_alike StationA = refl
  freed_alike StationB = refl

  pub bslb_refused : {r : ℕ} → r ≡ refuses (kind_in_2024 Bslb) at x → r ≡ refusal_at (kind_in_2024 Bslb) at x
  bslb_refused = from_either (kind_in_2024 Bslb) at x bslb_alike

  pub bslb_off_refused : {r : ℕ} → r ≡ refuses BslbOff at x → r ≡ refusal_at BslbOff at x
  bslb_off_refused = from_either BslbOff at x bslb_off_alike

  pub occupied_refused : {r : ℕ} → r ≡ refuses Occupied at x → r ≡ refusal_at Occupied at x
  occupied_refused = from_either Occupied at x occupied_alike

  pub freed_refused : {r : ℕ} → r ≡ refuses Freed at x → r ≡ refusal_at Freed at x
  freed_refused = from_either Freed at x freed_alike

-- ---- where it leads: f, which leaves pending to itself and commutes with the view
module _ (e : Kind) (at : Spot) (x : Kept) (f : Situation → Situation) (goes : (y : Situation) → f y ≡ leads e at y) (alike : (s : Name) → f x ≡ kept_from s (f (seen_from s x))) where
  led_alike : {z : Kept} → z ≡ leads e at x → z ≡ led_at e at x
  unfolding led_at
  led_alike h = h ∙ sym (goes x) ∙ alike at.own ∙ ap (kept_from at.own) (goes (seen_from at.own x))

module _ (at : Spot) (x : Kept) where
  abbrev set : Situation → Situation
  set y = with_held at.direction (held y at.direction with_section at.section) y

  abbrev clear : Situation → Situation
  clear y = with_held at.direction (held y at.direction without_section at.section) y

  abbrev free : Situation → Situation
  free y = with_track (record { occupied = still_occupied (place at y) y; watch = watch_freed (place at y) y }) y

  set_alike : (s : Name) → set x ≡ kept_from s (set (seen_from s x))
  set_alike StationA = refl
  set_alike StationB = refl

  clear_alike : (s : Name) → clear x ≡ kept_from s (clear (seen_from s x))
  clear_alike StationA = refl
  clear_alike StationB = refl

  free_alike : (s : Name) → free x ≡ kept_from s (free (seen_from s x))
  free_alike StationA = refl
  free_alike StationB =
      let watch = x.traffic.track.watch in
      ap (λ (v : Bool). with_track (record { occupied = still_occupied (place at x) x; watch = record { mark = watch.mark; count = if eqb (still_occupied (place at x) x) none and watch.mark and not v then 10 else watch.count } }) x)
      (or_turned (x.traffic.own has_exit_route) (x.traffic.other has_exit_route))

  pub bslb_led : {z : Kept} → z ≡ leads Bslb at x → z ≡ led_at Bslb at x
  bslb_led = led_alike Bslb at x set (λ y. stays y refl refl) set_alike

  pub bslb_off_led : {z : Kept} → z ≡ leads BslbOff at x → z ≡ led_at BslbOff at x
  bslb_off_led = led_alike BslbOff at x clear (λ y. stays y refl refl) clear_alike

  pub freed_led : {z : Kept} → z ≡ leads Freed at x → z ≡ led_at Freed at x
  freed_led = led_alike Freed at x free (λ y. stays y refl refl) free_alike
