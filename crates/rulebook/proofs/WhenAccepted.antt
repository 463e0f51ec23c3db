-- Where an event is accepted, plan and situation are judged right, its code is known and its argument right, its row refuses nothing, and it leads
-- where its row does. Assumes nothing.
use mathlib.Core.Bool.{not}
use mathlib.Core.Path.{◌≡◌}
use native.Mathlib.Omega.{arith}
use lib.Dec.{T, eqb}
use Rattle.words.proofs.Tests.{twice_not, not_equal, if_case}
use Rattle.rulebook.specs.Situation.{Kept}
use Rattle.rulebook.specs.Judged.{judged}
use Rattle.rulebook.specs.Apply.{known, argument_right, own_refusal, reached, accepted, refused, acted, stepped, applied, Outcome}
use Rattle.block.specs.declared.line.Plan.{Plan}
use Rattle.block.specs.declared.event.Event.{Event}
use Rattle.rulebook.proofs.InTable.{Known}

module _ (p : Plan) (x : Kept) (e : Event) (P : Kept → Type 0) (there : Known e.code → T (argument_right p e) → T (eqb (own_refusal p x e) 0) → P (reached p x e)) where
  abbrev Then : Outcome → Type 0
  Then o = o.refusal ≡ 0 → P o.next

  stepped_then : Then (stepped p x e)
  unfolding stepped acted
  stepped_then =
      if_case Then (not (known e)) (refused 3 x) _ (λ u h. absurd (omega (arith, h))) λ k.
      if_case Then (not (argument_right p e)) (refused 4 x) _ (λ u h. absurd (omega (arith, h))) λ r.
      if_case Then (eqb (own_refusal p x e) 0) (accepted (reached p x e)) (refused (own_refusal p x e) x)
      (λ a h. there (twice_not (known e) k) (twice_not (argument_right p e) r) a) (λ a h. absurd (not_equal (own_refusal p x e) 0 a h))

  pub when_accepted : (applied p x e).refusal ≡ 0 → P (applied p x e).next
  when_accepted =
      if_case Then (eqb (judged p x) 0) (stepped p x e) (refused (judged p x) x) (λ u. stepped_then)
      (λ u h. absurd (not_equal (judged p x) 0 u h))
