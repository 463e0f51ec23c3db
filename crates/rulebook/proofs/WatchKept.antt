-- (02, Req 02) Every event keeps the clauses on mark and count: by reasoning on what it does to the track, not by counting. Assumes nothing.
use Rattle.std.specs.Prelude.{if◌then◌else◌}
use Prim.Native.Nat.{ℕ, ◌≤◌, ◌<◌}
use mathlib.Core.Bool.{Bool, true, false, not, true≢false, false≢true}
use mathlib.Core.Path.{◌≡◌, refl, sym, ap, ap₂, subst, ◌∙◌}
use native.Mathlib.Omega.{arith}
use borrow.Author.Tests.{eq-eqb, ne_eqb, eqb-true, eqb-false, le-leb}
use lib.Bits.{and_zero_l, xor_zero_l}
use lib.Dec.{T, eqb, leb→le}
use Rattle.words.specs.Words.{◌and◌, ◌or◌, ◌implies◌}
use Rattle.words.proofs.Tests.{holds_is, fails_is, is_holds, and_at, and_of, both_off, or_turned}
use Rattle.sections.specs.Sections.{none, ◌belongs_to◌, only, ◌with_section◌, ◌without_section◌}
use Rattle.sections.proofs.SetLaws.{has_with_same, none_has}
use Rattle.rulebook.specs.Place.{Place}
use Rattle.rulebook.specs.Situation.{Track, Situation, turned_round, any_exit_route, none_occupied, count_runs, ◌has_exit_route}
use Rattle.rulebook.specs.Sound.{count_in_range, count_explained, mark_explained, watched_right, watch_sound}
use Rattle.rulebook.specs.Events.{count_starts, first_count, still_occupied, brings_to_0}
use Rattle.rulebook.specs.Table.{Kind}
use Rattle.rulebook.proofs.SecondPasses.{last_second}
use Rattle.rulebook.proofs.StationsKept.{next}
use Rattle.rulebook.proofs.Frame.{Framed, Touch, sets_route, releases_route, takes, frees, lowers, leaves, touch, of_section, track_after, routed_after}

-- the clauses as facts
pub record Watched (t : Track) (routed : Bool) : Type 0 where
  pub low : t.watch.count ≤ 10
  pub explained : (t.watch.count ≡ 0 → ⊥) → (t.watch.mark ≡ true) × (t.occupied ≡ none)
  pub unrouted : t.watch.mark ≡ true → routed ≡ false
  pub lasting : t.watch.mark ≡ true → t.occupied ≡ none → t.watch.count ≡ 0 → ⊥

-- ---- tests
given : (a b : Bool) → T (a implies b) → a ≡ true → T b
given true b t e = t
given false b t e = absurd (false≢true e)

gives : (a b : Bool) → (a ≡ true → T b) → T (a implies b)
gives true b f = f refl
gives false b f = tt

either : (a b : Bool) → T (not a or b) → a ≡ true → b ≡ true
either true b t e = holds_is b t
either false b t e = absurd (false≢true e)

one_of : (a b : Bool) → (a ≡ true → T b) → T (not a or b)
one_of true b f = f refl
one_of false b f = tt

not_on : (r : Bool) → r ≡ false → T (not r)
not_on true e = absurd (true≢false e)
not_on false e = tt

runs : (n : ℕ) → (n ≡ 0 → ⊥) → not (eqb n 0) ≡ true
runs n d = ap not (ne_eqb n 0 d)

not_zero : (n : ℕ) → not (eqb n 0) ≡ true → n ≡ 0 → ⊥
not_zero n h e = false≢true (sym (ap not (eq-eqb n 0 e)) ∙ h)

module _ (t : Track) (routed : Bool) where
  pub facts : T (watched_right t routed) → Watched t routed
  facts s =
      let h = and_at (count_in_range t routed and count_explained t routed) (mark_explained t routed) s in
      let g = and_at (count_in_range t routed) (count_explained t routed) h.0 in
      let marked = given t.watch.mark (not routed and (not (none_occupied t) or count_runs t.watch)) h.1 in
      let apart = and_at (not routed) (not (none_occupied t) or count_runs t.watch) in
      record {
        low = leb→le t.watch.count 10 g.0;
        explained = λ d.
            let e = and_at t.watch.mark (none_occupied t) (given (count_runs t.watch) (t.watch.mark and none_occupied t) g.1 (runs t.watch.count d)) in
            (holds_is t.watch.mark e.0, eqb-true t.occupied none (holds_is (none_occupied t) e.1));
        unrouted = λ e. fails_is routed (apart (marked e)).0;
        lasting = λ e o. not_zero t.watch.count (either (none_occupied t) (count_runs t.watch) (apart (marked e)).1 (eq-eqb t.occupied none o));
      }

  pub holds : Watched t routed → T (watched_right t routed)
  holds w =
      and_of (count_in_range t routed and count_explained t routed) (mark_explained t routed)
      (and_of (count_in_range t routed) (count_explained t routed) (is_holds (count_in_range t routed) (le-leb t.watch.count 10 w.low))
      (gives (count_runs t.watch) (t.watch.mark and none_occupied t) λ d.
      let e = w.explained (not_zero t.watch.count d) in
      and_of t.watch.mark (none_occupied t) (is_holds t.watch.mark e.0) (is_holds (none_occupied t) (eq-eqb t.occupied none e.1))))
      (gives t.watch.mark (not routed and (not (none_occupied t) or count_runs t.watch)) λ e.
      and_of (not routed) (not (none_occupied t) or count_runs t.watch) (not_on routed (w.unrouted e))
      (one_of (none_occupied t) (count_runs t.watch) (λ z. is_holds (count_runs t.watch) (runs t.watch.count (w.lasting e (eqb-true t.occupied none z))))))

-- ---- an event
-- the mark is set where it was, or by an occupation with no exit route
marked_unrouted : (mark unexpected routed : Bool) → (mark or (unexpected and not routed)) ≡ true → (mark ≡ true → routed ≡ false) → routed ≡ false
marked_unrouted true u r e f = f refl
marked_unrouted false true true e f = absurd (false≢true e)
marked_unrouted false true false e f = refl
marked_unrouted false false r e f = absurd (false≢true e)

all_three : (a b c : Bool) → (a and b and not c) ≡ true → (a ≡ true) × (b ≡ true)
all_three true true c e = (refl, refl)
all_three true false c e = absurd (false≢true e)
all_three false b c e = absurd (false≢true e)

still_marked : (mark last : Bool) → (mark and not last) ≡ true → (mark ≡ true) × (last ≡ false)
still_marked true true e = absurd (false≢true e)
still_marked true false e = (refl, refl)
still_marked false last e = absurd (false≢true e)

module _ (at : Place) (x : Situation) (w : Watched x.traffic.track (any_exit_route x)) where
  abbrev track : Track
  track = x.traffic.track

  abbrev n : ℕ
  n = track.watch.count

  abbrev After : Touch → Type 0
  After t = Watched (track_after t at x) (routed_after t x)

  section_taken : at.section < 49 → (track.occupied with_section at.section) ≡ none → ⊥
  section_taken h e = true≢false (sym (has_with_same track.occupied at.section h) ∙ ap (λ (m : ℕ). at.section belongs_to m) e ∙ none_has at.section)

  none_left : track.occupied ≡ none → still_occupied at x ≡ none
  none_left e = ap (λ (m : ℕ). m without_section at.section) e ∙ xor_zero_l _ ∙ and_zero_l (only at.section)

  freed : After frees
  freed = go (count_starts at x) refl
    where
      go : (v : Bool) → count_starts at x ≡ v → Watched (record { occupied = still_occupied at x; watch = record { mark = track.watch.mark; count = if v then first_count at x else n } }) (any_exit_route x)
      go true e =
          let s = all_three (eqb (still_occupied at x) none) track.watch.mark (any_exit_route x) e in
          record { low = omega arith; explained = λ d. (s.1, eqb-true (still_occupied at x) none s.0); unrouted = w.unrouted; lasting = λ m o z. omega (arith, z) }
      go false e =
          record {
            low = w.low;
            explained = λ d. let g = w.explained d in (g.0, none_left g.1);
            unrouted = w.unrouted;
            lasting = λ m o z. true≢false
                (sym (ap (λ (v : Bool). v and track.watch.mark and not (any_exit_route x)) (eq-eqb (still_occupied at x) none o) ∙ ap (λ (v : Bool). v and not (any_exit_route x)) m ∙ ap not (w.unrouted m)) ∙ e);
          }

  lowered : After lowers
  lowered =
      let last : Bool = brings_to_0 at x in
      record {
        low = omega (arith, w.low);
        explained = λ d.
            let g = w.explained (λ z. d (omega (arith, z))) in
            (ap₂ (λ (m l : Bool). m and not l) g.0 (last_second at x ∙ ne_eqb n 1 (λ z. d (omega (arith, z)))), g.1);
        unrouted = λ m. w.unrouted (still_marked track.watch.mark last m).0;
        lasting = λ m o z.
            let s = still_marked track.watch.mark last m in
            let not-one = eqb-false n 1 (sym (last_second at x) ∙ s.1) in
            w.lasting s.0 o (omega (arith, z, not-one));
      }

  after : (t : Touch) → (T (of_section t) → at.section < 49) → After t
  after sets_route f = record { low = omega arith; explained = λ d. absurd (d refl); unrouted = λ m. absurd (false≢true m); lasting = λ m o z. false≢true m }
  after releases_route f =
      record { low = w.low; explained = w.explained; unrouted = λ m. (both_off (x.traffic.own has_exit_route) (x.traffic.other has_exit_route) (w.unrouted m)).1; lasting = w.lasting }
  after takes f =
      record {
        low = omega arith;
        explained = λ d. absurd (d refl);
        unrouted = λ m. marked_unrouted track.watch.mark (not at.expected) (any_exit_route x) m w.unrouted;
        lasting = λ m o z. section_taken (f tt) o;
      }
  after frees f = freed
  after lowers f = lowered
  after leaves f = w

pub watch_kept : (e : Kind) (at : Place) (x : Situation) → Framed e at x → (T (of_section (touch e.code)) → at.section < 49) → T (watch_sound x) → T (watch_sound (next e at x))
watch_kept e at x f short t =
    let touched : Touch = touch e.code in
    let w = after at x (facts x.traffic.track (any_exit_route x) t) touched short in
    subst (λ (r : Track). T (watched_right r (any_exit_route (next e at x)))) (sym f.track)
    (subst (λ (v : Bool). T (watched_right (track_after touched at x) v)) (sym f.routed) (holds (track_after touched at x) (routed_after touched x) w))

-- ---- seen from the other station
pub watch_turned : (x : Situation) → T (watch_sound x) → T (watch_sound (turned_round x))
watch_turned x = subst (λ (v : Bool). T (watched_right x.traffic.track v)) (or_turned (x.traffic.own has_exit_route) (x.traffic.other has_exit_route))
