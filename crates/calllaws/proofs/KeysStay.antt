-- (02, Req 01) "keys do not change": a key sees of a refusal only whether there is one, and document 01's rows accept the same events, which lead to the
-- same situations. Assumes nothing.
use Prim.Native.Nat.{ℕ, zero, suc, ◌+◌}
use mathlib.Core.Path.{◌≡◌, refl, sym, ap, ap₂, ◌∙◌}
use mathlib.Core.Bool.{Bool, cond}
use mathlib.Core.List.{List, [], ◌∷◌, ◌++◌, map}
use lib.Dec.{eqb}
use Rattle.keylaws.specs.Rules.{Rules, Word}
use Rattle.keylaws.specs.Key.{empty_if, through, in_turn, answers}
use Rattle.rulebook.specs.Situation.{Kept}
use Rattle.rulebook.specs.Apply.{stepped, Outcome}
use Rattle.rulebook.specs.Laws.{stepped_in_01}
use Rattle.rulebook.proofs.AsIn01.{accepted_in_01, refused_as_in_01}
use Rattle.records.specs.Lists.{event_at}
use Rattle.keys.specs.Key.{rules}
use Rattle.calllaws.specs.Laws.{KeysStay}

-- ---- rules that accept the same events, which lead to the same situations, have the same answers
module _ (X : Type 0) (n : ℕ) (holds : X → Bool) (r s : X → ℕ → ℕ) (f g : X → ℕ → X)
    (same-accepted : (x : X) (p : ℕ) → eqb (r x p) 0 ≡ eqb (s x p) 0) (same_next : (x : X) (p : ℕ) → f x p ≡ g x p) where
  abbrev with_step : (X → ℕ → ℕ) → (X → ℕ → X) → Rules
  with_step refusal next = record { Situation = X; events = n; refusal = refusal; next = next; holds = holds }

  same_through : (from from₁ : X → List Word) → ((x : X) → from x ≡ from₁ x) → (x : X) (p : ℕ) → through (with_step r f) from x p ≡ through (with_step s g) from₁ x p
  unfolding through
  same_through from from₁ h x p =
      ap₂ (λ (v : Bool) (ws : List Word). cond v (map (λ (w : Word). p ∷ w) ws) []) (same-accepted x p) (h (f x p) ∙ ap from₁ (same_next x p))

  same_turn : (a b : ℕ → List Word) → ((p : ℕ) → a p ≡ b p) → (p m : ℕ) → in_turn a p m ≡ in_turn b p m
  unfolding in_turn
  same_turn a b h p zero = refl
  same_turn a b h p (suc m) = ap₂ ◌++◌ (h p) (same_turn a b h (p + 1) m)

  same_answers : (left : ℕ) (x : X) → answers (with_step r f) left x ≡ answers (with_step s g) left x
  unfolding answers
  same_answers zero x = refl
  same_answers (suc left) x =
      ap (λ (ws : List Word). empty_if (holds x) ++ ws)
      (same_turn (through (with_step r f) (answers (with_step r f) left) x) (through (with_step s g) (answers (with_step s g) left) x)
      (same_through (answers (with_step r f) left) (answers (with_step s g) left) (same_answers left) x) 1 n)

pub keys_stay : KeysStay
keys_stay q =
    let now : Kept → ℕ → Outcome = λ x place. stepped q.plan x (event_at q.events place) in
    let then : Kept → ℕ → Outcome = λ x place. stepped_in_01 q.plan x (event_at q.events place) in
    same_answers Kept (rules q).events (rules q).holds (λ x p. (now x p).refusal) (λ x p. (then x p).refusal) (λ x p. (now x p).next) (λ x p. (then x p).next)
    (λ x p. sym (ap (λ (o : Outcome). eqb o.refusal 0) (refused_as_in_01 q.plan x (event_at q.events p)) ∙ accepted_in_01 (now x p).refusal))
    (λ x p. sym (ap (λ (o : Outcome). o.next) (refused_as_in_01 q.plan x (event_at q.events p))))
    q.length q.situation
