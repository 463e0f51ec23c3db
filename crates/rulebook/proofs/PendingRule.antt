-- "Pending is cleared by any orientation change, any accepted AFBLI/AFBLE, any section becoming occupied, and link loss."
-- Of every accepted event: that, and nothing else but SOBB, writes it. Assumes nothing.
use Rattle.std.specs.Prelude.{if◌then◌else◌}
use Prim.Native.Nat.{ℕ}
use mathlib.Core.Bool.{Bool, true, false, not, beq}
use mathlib.Core.Path.{◌≡◌, refl, ap, ap₂, ◌∙◌, subst}
use lib.Dec.{eqb}
use Rattle.words.specs.Words.{◌and◌, ◌or◌}
use Rattle.words.proofs.Tests.{or_turned}
use Rattle.rulebook.specs.Pending.{changes, orientation_change}
use Rattle.rulebook.specs.Place.{Place, place}
use Rattle.rulebook.specs.Situation.{Situation, Kept, nobody, own_sobb, turned, turned_round, seen_from}
use Rattle.rulebook.specs.Table.{Kind, Sobb, table, kind_of}
use Rattle.rulebook.specs.Apply.{led_at, spot, reached}
use Rattle.block.specs.declared.line.Plan.{Plan}
use Rattle.block.specs.declared.line.Name.{Name}
use Rattle.block.specs.declared.line.Name.TheVariants.{StationA, StationB}
use Rattle.block.specs.declared.event.Event.{Event}
use Rattle.block.specs.declared.event.Spot.{Spot}
use Rattle.block.specs.declared.codes.Orientation.{Orientation}
use Rattle.block.specs.declared.codes.Pending.{Pending}
use Rattle.rulebook.specs.Laws.{same, any_orientation_change, AFBLI_or_AFBLE, section_becoming_occupied, link_loss, asked_by, pending_after, PendingRule}
use Rattle.rulebook.proofs.WhenAccepted.{when_accepted}
use Rattle.rulebook.proofs.InTable.{All, Known, by_equation, at_code, its_code}
use Rattle.rulebook.proofs.Frame.{Framed, framed}
use Rattle.rulebook.proofs.StationsKept.{next}

-- ---- the events that the sentence names are those that the table marks
abbrev cause : ℕ → Bool
cause code = AFBLI_or_AFBLE code or section_becoming_occupied code or link_loss code

causes : All (λ k. k.clears_pending ≡ cause k.code) table
causes = by_equation (λ k. k.clears_pending) (λ k. cause k.code) table refl

-- ---- an orientation change
not_and : (a b : Bool) → (not a or not b) ≡ not (a and b)
not_and true b = refl
not_and false b = refl

changed : (o p : Orientation) → changes o p ≡ not (same o p)
changed o p = not_and (beq o.out p.out) (beq o.inward p.inward)

change : (x y : Situation) → orientation_change x y ≡ any_orientation_change x y
change x y = ap₂ ◌or◌ (changed x.traffic.own.orientation y.traffic.own.orientation) (changed x.traffic.other.orientation y.traffic.other.orientation)

-- ---- as own sees it
own_rule : (e : Kind) (at : Place) (x : Situation) → e.clears_pending ≡ cause e.code → Framed e at x → (next e at x).traffic.pending ≡ pending_after e.code StationA x (next e at x)
own_rule e at x clears f =
    ap₂ (λ (v : Bool) (p : Pending). if v then nobody else p)
    (or_turned e.clears_pending (orientation_change x (next e at x)) ∙ ap₂ ◌or◌ (change x (next e at x)) clears)
    f.pending

-- ---- and seen from A again
turned_choice : (v c : Bool) (p : Pending) → turned (if v then nobody else if c then own_sobb else turned p) ≡ (if v then nobody else if c then asked_by StationB else p)
turned_choice true c p = refl
turned_choice false true p = refl
turned_choice false false p = refl

back_rule : (s : Name) (code : ℕ) (x w : Situation) → w.traffic.pending ≡ pending_after code StationA (seen_from s x) w → (seen_from s w).traffic.pending ≡ pending_after code s x (seen_from s w)
back_rule StationA code x w h = h
back_rule StationB code x w h =
    ap turned h
    ∙ turned_choice (any_orientation_change (turned_round x) w or cause code) (eqb code Sobb.code) x.traffic.pending
    ∙ ap (λ v. if v or cause code then nobody else if eqb code Sobb.code then asked_by StationB else x.traffic.pending)
    (or_turned (not (same x.traffic.other.orientation w.traffic.own.orientation)) (not (same x.traffic.own.orientation w.traffic.other.orientation)))

module _ (q : Plan) (x : Kept) (e : Event) where
  abbrev at : Spot
  at = spot q e

  reached_ruled : Known e.code → (reached q x e).traffic.pending ≡ pending_after e.code at.own x (reached q x e)
  unfolding led_at
  reached_ruled ok =
      let y : Situation = seen_from at.own x in
      let here : Place = place at y in
      let k : Kind = kind_of e.code in
      back_rule at.own e.code x (next k here y)
      (subst (λ (c : ℕ). (next k here y).traffic.pending ≡ pending_after c StationA y (next k here y)) (its_code e.code ok)
      (own_rule k here y (at_code (λ f. f.clears_pending ≡ cause f.code) causes e.code ok) (framed e.code ok here y)))

pub pending_rule : PendingRule
pending_rule q x e = when_accepted q x e (λ (y : Kept). y.traffic.pending ≡ pending_after e.code (spot q e).own x y) (λ k r a. reached_ruled q x e k)
