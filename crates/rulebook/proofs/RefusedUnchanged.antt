-- "a refused event hands the situation back unchanged", whatever the plan, the situation and the event. Assumes nothing.
use mathlib.Core.Bool.{not}
use mathlib.Core.Path.{◌≡◌, refl}
use lib.Dec.{eqb}
use Rattle.words.proofs.Tests.{if_case}
use Rattle.rulebook.specs.Judged.{judged}
use Rattle.rulebook.specs.Situation.{Kept}
use Rattle.rulebook.specs.Apply.{known, argument_right, own_refusal, reached, accepted, refused, acted, stepped, applied, Outcome}
use Rattle.block.specs.declared.line.Plan.{Plan}
use Rattle.block.specs.declared.event.Event.{Event}
use Rattle.rulebook.specs.Laws.{RefusedUnchanged}

module _ (q : Plan) (x : Kept) (e : Event) where
  Unchanged : Outcome → Type 0
  Unchanged o = (o.refusal ≡ 0 → ⊥) → o.next ≡ x

  stepped_unchanged : Unchanged (stepped q x e)
  unfolding Unchanged stepped acted
  stepped_unchanged =
      if_case Unchanged (not (known e)) (refused 3 x) _ (λ t d. refl) λ k.
      if_case Unchanged (not (argument_right q e)) (refused 4 x) _ (λ t d. refl) λ r.
      if_case Unchanged (eqb (own_refusal q x e) 0) (accepted (reached q x e)) (refused (own_refusal q x e) x)
      (λ t d. absurd (d refl)) (λ t d. refl)

  applied_unchanged : ((applied q x e).refusal ≡ 0 → ⊥) → (applied q x e).next ≡ x
  unfolding Unchanged
  applied_unchanged =
      if_case Unchanged (eqb (judged q x) 0) (stepped q x e) (refused (judged q x) x) (λ t. stepped_unchanged) (λ t d. refl)

pub refused_unchanged : RefusedUnchanged
refused_unchanged = applied_unchanged
