-- "Every accepted event leads from a sound situation to a sound one." Assumes nothing.
use Rattle.std.specs.Prelude.{if◌then◌else◌}
use Prim.Native.Nat.{ℕ}
use mathlib.Core.Bool.{Bool, not}
use mathlib.Core.Path.{◌≡◌, refl, sym, ap, subst}
use mathlib.Core.List.{List, [], ◌∷◌}
use native.Mathlib.Omega.{arith}
use lib.Dec.{T, eqb}
use borrow.Author.Tests.{eq-eqb}
use Rattle.words.specs.Words.{◌and◌, ◌or◌}
use Rattle.words.proofs.Tests.{and_at, and_of, twice_not, if_case, is_holds, holds_is}
use Rattle.block.specs.Line.{is_plan, owner, station_named, section_of}
use Rattle.rulebook.specs.Judged.{judged}
use Rattle.block.proofs.PlanLaws.{plan_short}
use Rattle.rulebook.specs.Place.{Place, place}
use Rattle.rulebook.specs.Situation.{Situation, Kept, turned_round, seen_from, kept_from}
use Rattle.rulebook.specs.Sound.{stations_sound, sets_sound, watch_sound, sound_in_2024, exclusions_kept, sound}
use Rattle.rulebook.specs.Table.{Kind, section, signal, kind_of}
use Rattle.rulebook.specs.Apply.{refuses, refusal_at, led_at, known, argument_right, named, spot, own_refusal, reached, accepted, refused, acted, stepped, applied, Outcome, after_events}
use Rattle.block.specs.declared.line.Plan.{Plan}
use Rattle.block.specs.declared.line.Name.{Name}
use Rattle.block.specs.declared.line.Name.TheVariants.{StationA, StationB}
use Rattle.block.specs.declared.event.Event.{Event}
use Rattle.block.specs.declared.event.Spot.{Spot}
use Rattle.rulebook.proofs.InTable.{Known, at_code, its_code}
use Rattle.rulebook.proofs.Frame.{framed, kinds}
use Rattle.rulebook.proofs.Placed.{placed}
use Rattle.rulebook.proofs.StationsKept as stations
use Rattle.rulebook.proofs.StationsKept.{next, turned_sound, stations_kept}
use Rattle.rulebook.proofs.SetsKept.{sets_kept}
use Rattle.rulebook.proofs.WatchKept.{watch_kept, watch_turned}
use Rattle.rulebook.proofs.ExclusionsKept.{Excluded, Here, Passed, has_passed, exclusions_stay, excluded_seen, seen_excluded}
use Rattle.rulebook.specs.Laws.{SoundnessKept, MethodsSound, SoundAfter}

-- the conjuncts of soundness
pub record Parts (q : Plan) (x : Situation) : Type 0 where
  pub stations : T (stations_sound x)
  pub sets : T (sets_sound q x)
  pub watch : T (watch_sound x)
  pub exclusions : T (exclusions_kept q x)

pub parts : (q : Plan) (x : Kept) → T (sound q x) → Parts q x
parts q x t =
    let f = and_at (sound_in_2024 q x) (exclusions_kept q x) t in
    let h = and_at (stations_sound x and sets_sound q x) (watch_sound x) f.0 in
    let g = and_at (stations_sound x) (sets_sound q x) h.0 in
    record { stations = g.0; sets = g.1; watch = h.1; exclusions = f.1 }

pub whole : (q : Plan) (x : Kept) → Parts q x → T (sound q x)
whole q x p =
    and_of (sound_in_2024 q x) (exclusions_kept q x)
    (and_of (stations_sound x and sets_sound q x) (watch_sound x) (and_of (stations_sound x) (sets_sound q x) p.stations p.sets) p.watch)
    p.exclusions

-- ---- as the station s sees it, and back
pub record Seen (q : Plan) (s : Name) (y : Situation) : Type 0 where
  pub stations : T (stations_sound y)
  pub sets : T (sets_sound q y)
  pub watch : T (watch_sound y)
  pub exclusions : Excluded q s y

pub seen_sound : (q : Plan) (s : Name) (x : Kept) → T (sound q x) → Seen q s (seen_from s x)
seen_sound q StationA x t = let p = parts q x t in record { stations = p.stations; sets = p.sets; watch = p.watch; exclusions = excluded_seen q StationA x p.exclusions }
seen_sound q StationB x t =
    let p = parts q x t in
    record { stations = turned_sound x p.stations; sets = p.sets; watch = watch_turned x p.watch; exclusions = excluded_seen q StationB x p.exclusions }

kept_sound : (q : Plan) (s : Name) (y : Situation) → Seen q s y → T (sound q (kept_from s y))
kept_sound q StationA y p = whole q y (record { stations = p.stations; sets = p.sets; watch = p.watch; exclusions = seen_excluded q StationA y p.exclusions })
kept_sound q StationB y p =
    whole q (turned_round y) (record { stations = turned_sound y p.stations; sets = p.sets; watch = watch_turned y p.watch; exclusions = seen_excluded q StationB y p.exclusions })

module _ (q : Plan) (plan : T (is_plan q)) (x : Kept) (e : Event) (t : T (sound q x)) where
  abbrev at : Spot
  at = spot q e

  abbrev seen : Situation
  seen = seen_from at.own x

  -- the station of a signal is the owner of its section
  owned : (names : ℕ) → T (eqb names signal) → named q names e.argument ≡ owner q (section_of e.argument)
  owned names u = ap (λ (v : Bool). if v or eqb names section then owner q (section_of e.argument) else station_named e.argument) (holds_is (eqb names signal) u)

  -- as own sees it
  led_sound : Known e.code → T (argument_right q e) → T (eqb (refuses (kind_of e.code) at seen) 0) → T (sound q (kept_from at.own (next (kind_of e.code) (place at seen) seen)))
  led_sound ok right a =
      let k : Kind = kind_of e.code in
      let here : Place = place at seen in
      let p = seen_sound q at.own x t in
      let kind = kinds e.code ok in
      let frame = framed e.code ok here seen in
      let there = placed q (plan_short q plan) k.argument e.argument right in
      let event-here : Here k here seen =
      record {
        held = refl;
        short = λ u. let l = (there.signal (kind.held u)).line in omega (arith, l.high, l.short);
        owned = λ u. owned k.argument (kind.held u);
        passed = λ old. subst (Passed seen.traffic.own here.held_here) (sym (its_code e.code ok)) (has_passed at seen old e.code a);
      } in
      kept_sound q at.own (next k here seen)
      (record {
        stations = at_code (λ k. stations.accepted (k.row here seen) → T (stations_sound (next k here seen))) (stations_kept here seen p.stations) e.code ok a;
        sets = sets_kept q k here seen kind frame there p.sets;
        watch = watch_kept k here seen frame (λ u. let l = there.section (kind.taken u) in omega (arith, l.high, l.short)) p.watch;
        exclusions = exclusions_stay k here seen frame event-here p.exclusions;
      })

  pub reached_sound : Known e.code → T (argument_right q e) → T (eqb (own_refusal q x e) 0) → T (sound q (reached q x e))
  unfolding refusal_at led_at
  reached_sound ok right a = led_sound ok right a

  pub stepped_sound : T (sound q (stepped q x e).next)
  unfolding stepped acted
  stepped_sound =
      let P : Outcome → Type 0 = λ (o : Outcome). T (sound q o.next) in
      if_case P (not (known e)) (refused 3 x) _ (λ u. t) λ k.
      if_case P (not (argument_right q e)) (refused 4 x) _ (λ u. t) λ r.
      if_case P (eqb (own_refusal q x e) 0) (accepted (reached q x e)) (refused (own_refusal q x e) x)
      (reached_sound (twice_not (known e) k) (twice_not (argument_right q e) r)) (λ u. t)

  applied_sound : T (sound q (applied q x e).next)
  applied_sound =
      if_case (λ (o : Outcome). T (sound q o.next)) (eqb (judged q x) 0) (stepped q x e) (refused (judged q x) x)
      (λ u. stepped_sound) (λ u. t)

pub soundness_kept : SoundnessKept
soundness_kept = applied_sound

pub methods_sound : MethodsSound
methods_sound p plan x e t ok right a = led_sound p plan x e t ok right (is_holds _ (eq-eqb _ 0 a))

after_sound : (p : Plan) → T (is_plan p) → (events : List Event) (x : Kept) → T (sound p x) → T (sound p (after_events p x events))
after_sound p plan [] x t = t
after_sound p plan (e ∷ events) x t = after_sound p plan events (applied p x e).next (soundness_kept p plan x e t)

pub sound_after : SoundAfter
sound_after p plan x t events = after_sound p plan events x t
