-- Along every run from a sound situation `stepped` and `applied` agree. Assumes nothing.
use Rattle.std.specs.Prelude.{if◌then◌else◌}
use Prim.Native.Nat.{ℕ}
use mathlib.Core.List.{List, [], ◌∷◌}
use mathlib.Core.Path.{◌≡◌, refl, sym, ap, ◌∙◌}
use lib.Dec.{T, eqb}
use Rattle.block.specs.Line.{is_plan}
use Rattle.rulebook.specs.Situation.{Kept}
use Rattle.rulebook.specs.Sound.{sound}
use Rattle.rulebook.specs.Apply.{refused, stepped, applied, Outcome, along}
use Rattle.block.specs.declared.line.Plan.{Plan}
use Rattle.block.specs.declared.event.Event.{Event}
use Rattle.rulebook.proofs.Judged.{judged_accepts}
use Rattle.rulebook.proofs.SoundnessKept.{stepped_sound}
use Rattle.rulebook.specs.Laws.{StepsAgree}

module _ (p : Plan) (plan : T (is_plan p)) where
  pub one_step : (x : Kept) → T (sound p x) → (e : Event) → stepped p x e ≡ applied p x e
  one_step x t e = sym (ap (λ (n : ℕ). if eqb n 0 then stepped p x e else refused n x) (judged_accepts p plan x t))

  agree : (x : Kept) → T (sound p x) → (events : List Event) → along (stepped p) x events ≡ along (applied p) x events
  agree x t [] = refl
  agree x t (e ∷ events) =
      ap (λ (l : List Outcome). stepped p x e ∷ l) (agree (stepped p x e).next (stepped_sound p plan x e t) events)
      ∙ ap (λ (o : Outcome). o ∷ along (applied p) o.next events) (one_step x t e)

pub steps_agree : StepsAgree
steps_agree = agree
