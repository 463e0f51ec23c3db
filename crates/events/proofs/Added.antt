-- (02, Req 05) What 2012 adds to the event of a code, and that it adds nothing to any other. Assumes nothing.
use Prim.Native.Nat.{ℕ}
use mathlib.Core.Bool.{Bool, true, false}
use lib.Dec.{eqb}
use mathlib.Core.Path.{◌≡◌, refl, sym, ap, ◌∙◌}
use borrow.Author.Tests.{eq-eqb, ne_eqb}
use Rattle.rulebook.specs.Situation.{Kept}
use Rattle.rulebook.specs.Apply.{event, own_refusal}
use Rattle.rulebook.specs.Editions.{kind_in_2024, refusal_by, added_in_2012}
use Rattle.rulebook.proofs.Editions.{added_by_edition, own_by_edition}
use Rattle.block.specs.declared.line.Plan.{Plan}
use Rattle.block.specs.declared.event.Event.{Event}

module _ (p : Plan) (x : Kept) (e : Event) where
  pub added_as : {n : ℕ} → e.code ≡ n → {r : ℕ} → r ≡ added_in_2012 p x (event n e.argument) → r ≡ added_in_2012 p x e
  added_as is h = h ∙ ap (λ (c : ℕ). added_in_2012 p x (event c e.argument)) (sym is)

  pub nothing_added : (e.code ≡ 3 → ⊥) → (e.code ≡ 4 → ⊥) → (e.code ≡ 6 → ⊥) → (e.code ≡ 10 → ⊥) → 0 ≡ added_in_2012 p x e
  nothing_added d₃ d₄ d₆ d₁₀ = rw (ne_eqb e.code 3 d₃, ne_eqb e.code 4 d₄, ne_eqb e.code 6 d₆, ne_eqb e.code 10 d₁₀) refl

  -- ---- by what refuses it in 2024
  module _ {r : ℕ} where
    pub refused_first : (r ≡ 0 → ⊥) → r ≡ added_by_edition p x e r
    refused_first d = rw (ne_eqb r 0 d)

    pub then_2012 : r ≡ 0 → p.rules2012 ≡ true → {s : ℕ} → s ≡ added_in_2012 p x e → s ≡ added_by_edition p x e r
    then_2012 z old g = rw (eq-eqb r 0 z, old) g

    pub then_2024 : r ≡ 0 → p.rules2012 ≡ false → 0 ≡ added_by_edition p x e r
    then_2024 z new = rw (eq-eqb r 0 z, new)

    -- which is its own refusal
    pub own_is : r ≡ refusal_by kind_in_2024 p x e → {s : ℕ} → s ≡ added_by_edition p x e r → s ≡ own_refusal p x e
    own_is f g = g ∙ ap (added_by_edition p x e) f ∙ sym (own_by_edition p x e)

    pub accepted_is : r ≡ refusal_by kind_in_2024 p x e → {v : Bool} → v ≡ eqb (added_by_edition p x e r) 0 → v ≡ eqb (own_refusal p x e) 0
    accepted_is f g = g ∙ ap (λ (n : ℕ). eqb n 0) (own_is f refl)
