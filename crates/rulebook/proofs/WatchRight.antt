-- (02, Req 02) What becomes of mark and count by every accepted event, and the ten seconds. Assumes nothing.
use Rattle.std.specs.Prelude.{if◌then◌else◌}
use Prim.Native.Nat.{ℕ, zero, suc, ◌-◌, ◌≤◌, ◌<◌}
use mathlib.Core.Bool.{Bool, true, false, not}
use mathlib.Core.Path.{◌≡◌, refl, sym, ap, ap₂, subst, ◌∙◌}
use native.Mathlib.Decide.{ℕ_discrete}
use native.Mathlib.Omega.{arith}
use borrow.Author.Tests.{eq-eqb, ne_eqb, lt-leb}
use lib.Dec.{T, eqb}
use Rattle.words.specs.Words.{◌and◌}
use Rattle.words.proofs.Tests.{holds_is, and_true, or_turned}
use Rattle.sections.specs.Sections.{none, ◌belongs_to◌, only, ◌without_section◌}
use Rattle.sections.proofs.SetLaws.{has_without_same, has_without_other, no_sections}
use Rattle.sections.proofs.SetsOfSets.{in_only}
use Rattle.block.specs.Line.{is_plan, is_section, section_of}
use Rattle.block.proofs.PlanLaws.{plan_short, Within, within}
use Rattle.rulebook.specs.Situation.{Track, Watch, Situation, Kept, seen_from, with_this_watch, any_exit_route, count_runs, none_occupied, track_free, line_free, ◌has_exit_route}
use Rattle.rulebook.specs.Sound.{sound}
use Rattle.rulebook.specs.Place.{Place, place}
use Rattle.rulebook.specs.Events.{brings_to_0}
use Rattle.rulebook.specs.Table.{Freed, kind_of}
use Rattle.rulebook.specs.Apply.{refusal_at, led_at, event, spot, own_refusal, reached, accepted, applied, Outcome}
use Rattle.block.specs.declared.line.Plan.{Plan}
use Rattle.block.specs.declared.line.Name.{Name}
use Rattle.block.specs.declared.line.Name.TheVariants.{StationA, StationB}
use Rattle.block.specs.declared.event.Event.{Event}
use Rattle.block.specs.declared.event.Spot.{Spot}
use Rattle.rulebook.proofs.SecondPasses.{from_one, last_second, there, lowered, second_passes, leads_there}
use Rattle.rulebook.proofs.Judged.{judged_accepts}
use Rattle.rulebook.proofs.WhenAccepted.{when_accepted}
use Rattle.rulebook.proofs.InTable.{Known, its_code}
use Rattle.rulebook.proofs.WatchByCode.{ruled, own_rule}
use Rattle.rulebook.proofs.StationsKept.{next}
use Rattle.rulebook.proofs.SoundnessKept.{soundness_kept}
use Rattle.rulebook.specs.Laws.{unexpected, mark_after, count_after, one_second, seconds, MarkedWithOneLeft, WatchRule, TenSeconds}

-- ---- as either station sees it
pub track_seen : (s : Name) (x : Situation) → (seen_from s x).traffic.track ≡ x.traffic.track
track_seen StationA x = refl
track_seen StationB x = refl

routes_seen : (s : Name) (x : Situation) → any_exit_route (seen_from s x) ≡ any_exit_route x
routes_seen StationA x = refl
routes_seen StationB x = or_turned (x.traffic.other has_exit_route) (x.traffic.own has_exit_route)

link_seen : (s : Name) (x : Situation) → (seen_from s x).traffic.link ≡ x.traffic.link
link_seen StationA x = refl
link_seen StationB x = refl

module _ (q : Plan) (x : Kept) (e : Event) where
  abbrev at : Spot
  at = spot q e

  abbrev seen : Situation
  seen = seen_from at.own x

  reached_ruled : Known e.code → (reached q x e).traffic.track.watch ≡ record { mark = mark_after q x e; count = count_after e.code x (reached q x e) }
  unfolding led_at
  reached_ruled ok =
      let here : Place = place at seen in
      let led : Situation = next (kind_of e.code) here seen in
      let back : (reached q x e).traffic.track ≡ led.traffic.track = track_seen at.own led in
      let stray : Bool = unexpected q x e in
      let w : Watch = seen.traffic.track.watch in
      let clears : Bool = none_occupied led.traffic.track in
      let routed : Bool = any_exit_route seen in
      let same : w ≡ x.traffic.track.watch = ap (λ (t : Track). t.watch) (track_seen at.own x) in
      ap (λ (t : Track). t.watch) back
      ∙ own_rule here seen e.code ok
      ∙ ap (λ (c : ℕ). ruled c w stray routed (brings_to_0 here seen) clears) (its_code e.code ok)
      ∙ ap (λ (l : Bool). ruled e.code w stray routed l clears) (last_second here seen)
      ∙ ap (λ (v : Watch). ruled e.code v stray routed (eqb v.count 1) clears) same
      ∙ ap₂ (λ (r c : Bool). ruled e.code x.traffic.track.watch stray r (eqb x.traffic.track.watch.count 1) c) (routes_seen at.own x) (ap none_occupied (sym back))

pub watch_rule : WatchRule
watch_rule q x e =
    when_accepted q x e (λ (y : Kept). y.traffic.track.watch ≡ record { mark = mark_after q x e; count = count_after e.code x y }) (λ k r a. reached_ruled q x e k)

-- ---- the ten seconds
-- the count runs over a free track
record Counting (p : Plan) (n : ℕ) (z : Kept) : Type 0 where
  is_sound : T (sound p z)
  link_up : z.traffic.link ≡ true
  no_exit_route : any_exit_route z ≡ false
  watched : z.traffic.track ≡ record { occupied = none; watch = record { mark = true; count = n } }

free_as : (z : Kept) (t : Track) → z.traffic.link ≡ true → any_exit_route z ≡ false → z.traffic.track ≡ t → line_free z ≡ track_free t
free_as z t up off is =
    ap₂ (λ (l r : Bool). l and track_free z.traffic.track and not r) up off ∙ and_true (track_free z.traffic.track) ∙ ap track_free is

module _ (p : Plan) (plan : T (is_plan p)) where
  passed : (z : Kept) → T (sound p z) → (applied p z one_second).next ≡ lowered (there p z) z
  passed z t = ap (λ (o : Outcome). o.next) (second_passes p z (judged_accepts p plan z t))

  -- the track after a second
  lowered_track : (n : ℕ) (z : Kept) → Counting p n z → (applied p z one_second).next.traffic.track ≡ record { occupied = none; watch = record { mark = not (eqb n 1); count = n - 1 } }
  lowered_track n z c =
      ap (λ (y : Kept). y.traffic.track) (passed z c.is_sound)
      ∙ ap (λ (t : Track). with_this_watch (record { mark = t.watch.mark and not (count_runs t.watch and eqb (t.watch.count - 1) 0); count = t.watch.count - 1 }) t) c.watched
      ∙ ap (λ (l : Bool). record { occupied = none; watch = record { mark = not l; count = n - 1 } }) (from_one n)

  goes_on : (n m : ℕ) (z : Kept) → m ≡ n - 1 → 1 ≤ m → Counting p n z → Counting p m (applied p z one_second).next
  goes_on n m z e l c =
      record {
        is_sound = soundness_kept p plan z one_second c.is_sound;
        link_up = ap (λ (y : Kept). y.traffic.link) (passed z c.is_sound) ∙ c.link_up;
        no_exit_route = ap any_exit_route (passed z c.is_sound) ∙ c.no_exit_route;
        watched =
            lowered_track n z c
            ∙ ap₂ (λ (v : Bool) (k : ℕ). record { occupied = none; watch = record { mark = not v; count = k } }) (ne_eqb n 1 (λ one. omega (arith, one, e, l))) (sym e);
      }

  not_free : (n : ℕ) (z : Kept) → 1 ≤ n → Counting p n z → line_free z ≡ false
  not_free n z l c =
      free_as z _ c.link_up c.no_exit_route c.watched
      ∙ ap (λ (v : Bool). not (not v)) (ne_eqb n 0 (λ e. omega (arith, e, l)))

  module _ (x : Kept) (k : ℕ) (s : MarkedWithOneLeft p x k) where
    abbrev freeing : Event
    freeing = event Freed.code k

    abbrev y : Kept
    y = (applied p x freeing).next

    in_line : Within p k
    in_line = within p k (holds_is (is_section p k) s.is_section)

    short : k < 49
    short = omega (arith, in_line.most, plan_short p plan)

    itself : section_of k ≡ k
    itself = rw (lt-leb 128 k (omega (arith, short))) refl

    holds_it : (k belongs_to x.traffic.track.occupied) ≡ true
    holds_it = ap (λ (m : ℕ). k belongs_to m) s.alone_occupied ∙ in_only k k short ∙ eq-eqb k k refl

    empty : (only k without_section k) ≡ none
    empty = no_sections (only k without_section k) (λ j. go j (ℕ_discrete k j))
      where
        go : (j : ℕ) → Dec (k ≡ j) → (j belongs_to (only k without_section k)) ≡ false
        go j (yes same) = subst (λ (i : ℕ). (i belongs_to (only k without_section k)) ≡ false) same (has_without_same (only k) k short)
        go j (no other) = has_without_other (only k) k j short other ∙ in_only j k short ∙ ne_eqb j k (λ e. other (sym e))

    own : Name
    own = (spot p freeing).own

    seen_holds : (section_of k belongs_to (seen_from own x).traffic.track.occupied) ≡ true
    seen_holds = ap₂ (λ (i : ℕ) (t : Track). i belongs_to t.occupied) itself (track_seen own x) ∙ holds_it

    not_refused : own_refusal p x freeing ≡ 0
    unfolding refusal_at own
    not_refused = rw seen_holds refl

    led : applied p x freeing ≡ accepted (reached p x freeing)
    led = leads_there p x freeing (judged_accepts p plan x s.is_sound) refl (holds_is _ s.is_section) not_refused

    next_is : y ≡ reached p x freeing
    next_is = ap (λ (o : Outcome). o.next) led

    as_seen : Situation
    as_seen = seen_from own x

    after : Situation
    after = next (kind_of Freed.code) (place (spot p freeing) as_seen) as_seen

    back : reached p x freeing ≡ seen_from own after
    unfolding led_at own as_seen after
    back = refl

    none_left : y.traffic.track.occupied ≡ none
    unfolding as_seen after
    none_left =
        ap (λ (z : Kept). z.traffic.track.occupied) (next_is ∙ back) ∙ ap (λ (t : Track). t.occupied) (track_seen own after)
        ∙ ap₂ (λ (i : ℕ) (t : Track). t.occupied without_section i) itself (track_seen own x) ∙ ap (λ (m : ℕ). m without_section k) s.alone_occupied ∙ empty

    starts : y.traffic.track.watch ≡ record { mark = true; count = 10 }
    starts =
        watch_rule p x freeing (ap (λ (o : Outcome). o.refusal) led)
        ∙ ap (λ (v : Bool). record { mark = x.traffic.track.watch.mark; count = if v and x.traffic.track.watch.mark and not (any_exit_route x) then 10 else x.traffic.track.watch.count }) (eq-eqb y.traffic.track.occupied none none_left)
        ∙ ap₂ (λ (m r : Bool). record { mark = m; count = if m and not r then 10 else x.traffic.track.watch.count }) s.is_marked s.no_exit_route

    counting_10 : Counting p 10 y
    unfolding as_seen after
    counting_10 =
        record {
          is_sound = soundness_kept p plan x freeing s.is_sound;
          link_up = ap (λ (z : Kept). z.traffic.link) (next_is ∙ back) ∙ link_seen own after ∙ link_seen own x ∙ s.link_up;
          no_exit_route = ap any_exit_route (next_is ∙ back) ∙ routes_seen own after ∙ routes_seen own x ∙ s.no_exit_route;
          watched = ap₂ (λ (m : ℕ) (w : Watch). record { occupied = m; watch = w }) none_left starts;
        }

    counting : (j : ℕ) → j < 10 → Counting p (10 - j) (seconds j p y)
    counting zero h = counting_10
    counting (suc j) h = goes_on (10 - j) (10 - suc j) (seconds j p y) (omega arith) (omega arith) (counting j (omega arith))

    after_nine : Counting p 1 (seconds 9 p y)
    after_nine = counting 9 (omega arith)

    ended : (seconds 10 p y).traffic.track ≡ record { occupied = none; watch = record { mark = false; count = 0 } }
    ended = lowered_track 1 (seconds 9 p y) after_nine

    last : seconds 10 p y ≡ lowered (there p (seconds 9 p y)) (seconds 9 p y)
    last = passed (seconds 9 p y) after_nine.is_sound

    ten : ((j : ℕ) → j < 10 → (line_free (seconds j p y) ≡ false) × ((seconds j p y).traffic.track.watch.count ≡ 10 - j))
        × (line_free (seconds 10 p y) ≡ true) × ((seconds 10 p y).traffic.track.watch.mark ≡ false)
    ten = (
      (λ j h. (not_free (10 - j) (seconds j p y) (omega arith) (counting j h), ap (λ (t : Track). t.watch.count) (counting j h).watched)),
      free_as (seconds 10 p y) _ (ap (λ (z : Kept). z.traffic.link) last ∙ after_nine.link_up) (ap any_exit_route last ∙ after_nine.no_exit_route) ended,
      ap (λ (t : Track). t.watch.mark) ended,
    )

pub ten_seconds : TenSeconds
ten_seconds p x k s = ten p s.is_a_plan x k s
