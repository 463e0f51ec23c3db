-- Every event keeps the sets of a sound situation within the plan. Assumes nothing.
use Prim.Native.Nat.{ℕ, ◌<◌}
use mathlib.Core.Bool.{not}
use mathlib.Core.Path.{◌≡◌, sym, ap, subst}
use native.Mathlib.Omega.{arith}
use lib.Dec.{T, eqb}
use Rattle.words.specs.Words.{◌and◌}
use Rattle.sections.specs.Sections.{◌belongs_to◌, ◌with_section◌, ◌without_section◌, sections_up_to}
use Rattle.words.proofs.Tests.{and_at, and_of, if_case}
use Rattle.sections.proofs.SetLaws.{has_with_other, has_without_other, with_up_to, without_up_to}
use Rattle.block.specs.Line.{first_section, entrance}
use Rattle.rulebook.specs.Place.{Place}
use Rattle.rulebook.specs.Situation.{Track, Signals, Held, Situation, held_towards, with_held_towards}
use Rattle.rulebook.specs.Sound.{held_sound, sets_sound}
use Rattle.rulebook.specs.Table.{Kind, Bslb}
use Rattle.block.specs.declared.line.Plan.{Plan}
use Rattle.block.specs.declared.line.Direction.{Direction}
use Rattle.block.specs.declared.line.Direction.TheVariants.{TowardsA, TowardsB}
use Rattle.rulebook.proofs.StationsKept.{next}
use Rattle.rulebook.proofs.Placed.{InLine, OfBlockSignal, Placed}
use Rattle.rulebook.proofs.Frame.{Framed, Kinds, Touch, sets_route, releases_route, takes, frees, lowers, leaves, touch, of_section, track_after, of_signal, held_after, signals_after}

-- a set that holds sections only, and not j, stays one
module _ (n k j m : ℕ) (l : InLine n k) (other : k ≡ j → ⊥) (s : T (sections_up_to n m and not (j belongs_to m))) where
  parts : T (sections_up_to n m) × T (not (j belongs_to m))
  parts = and_at (sections_up_to n m) (not (j belongs_to m)) s

  in_word : k < 49
  in_word = omega (arith, l.high, l.short)

  with_kept : T (sections_up_to n (m with_section k) and not (j belongs_to (m with_section k)))
  with_kept =
      and_of (sections_up_to n (m with_section k)) (not (j belongs_to (m with_section k)))
      (with_up_to n m parts.0 k in_word l.low l.high)
      (subst (λ v. T (not v)) (sym (has_with_other m k j in_word other)) parts.1)

  without_kept : T (sections_up_to n (m without_section k) and not (j belongs_to (m without_section k)))
  without_kept =
      and_of (sections_up_to n (m without_section k)) (not (j belongs_to (m without_section k)))
      (without_up_to n m parts.0 k in_word l.low)
      (subst (λ v. T (not v)) (sym (has_without_other m k j in_word other)) parts.1)

module _ (q : Plan) where
  abbrev within : ℕ → Type 0
  within m = T (sections_up_to q.sections m)

  abbrev held_in : Direction → Held → Type 0
  held_in d h = T (sections_up_to q.sections (held_towards d h) and not (first_section q (entrance d) belongs_to held_towards d h))

  track_kept : (t : Touch) (at : Place) (x : Situation) → (T (of_section t) → InLine q.sections at.section) → within x.traffic.track.occupied → within (track_after t at x).occupied
  track_kept sets_route at x line s = s
  track_kept releases_route at x line s = s
  track_kept takes at x line s = let l = line tt in with_up_to q.sections x.traffic.track.occupied s at.section (omega (arith, l.high, l.short)) l.low l.high
  track_kept frees at x line s = let l = line tt in without_up_to q.sections x.traffic.track.occupied s at.section (omega (arith, l.high, l.short)) l.low
  track_kept lowers at x line s = s
  track_kept leaves at x line s = s

  abbrev both_held : Held → Type 0
  both_held h = held_in TowardsB h × held_in TowardsA h

  one_kept : (code k : ℕ) (d : Direction) (h : Held) → OfBlockSignal q d k → held_in d h
      → T (sections_up_to q.sections (held_after code k (held_towards d h)) and not (first_section q (entrance d) belongs_to held_after code k (held_towards d h)))
  one_kept code k d h f s =
      if_case (λ (m : ℕ). T (sections_up_to q.sections m and not (first_section q (entrance d) belongs_to m))) (eqb code Bslb.code) _ _
      (λ t. with_kept q.sections k (first_section q (entrance d)) (held_towards d h) f.line f.no_exit s)
      (λ t. without_kept q.sections k (first_section q (entrance d)) (held_towards d h) f.line f.no_exit s)

  held_kept : (code k : ℕ) (d : Direction) (h : Held) → OfBlockSignal q d k → both_held h → both_held (with_held_towards d (held_after code k (held_towards d h)) h)
  held_kept code k TowardsA h f s = (s.0, one_kept code k TowardsA h f s.1)
  held_kept code k TowardsB h f s = (one_kept code k TowardsB h f s.0, s.1)

  signals_kept : (code : ℕ) (at : Place) (s : Signals) → (T (of_signal code) → OfBlockSignal q at.direction at.section) → both_held s.held → both_held (signals_after code at s).held
  signals_kept code at s f h =
      if_case (λ (r : Signals). both_held r.held) (of_signal code) _ s
      (λ t. held_kept code at.section at.direction s.held (f t) h)
      (λ t. h)

  pub sets_kept : (e : Kind) (at : Place) (x : Situation) → Kinds e → Framed e at x → Placed q e.argument at.section at.direction → T (sets_sound q x) → T (sets_sound q (next e at x))
  sets_kept e at x kind f right s =
      let n : ℕ = q.sections in
      let y : Situation = next e at x in
      let before = and_at (sections_up_to n x.traffic.track.occupied and held_sound q x TowardsB) (held_sound q x TowardsA) s in
      let before₂ = and_at (sections_up_to n x.traffic.track.occupied) (held_sound q x TowardsB) before.0 in
      let tracks : within y.traffic.track.occupied =
      subst within (sym (ap (λ (t : Track). t.occupied) f.track)) (track_kept (touch e.code) at x (λ t. right.section (kind.taken t)) before₂.0) in
      let signals : both_held y.signals.held =
      subst (λ (r : Signals). both_held r.held) (sym f.signals) (signals_kept e.code at x.signals (λ t. right.signal (kind.held t)) (before₂.1, before.1)) in
      and_of (sections_up_to n y.traffic.track.occupied and held_sound q y TowardsB) (held_sound q y TowardsA)
      (and_of (sections_up_to n y.traffic.track.occupied) (held_sound q y TowardsB) tracks signals.0) signals.1
