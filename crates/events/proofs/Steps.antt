-- A step is known by its refusal: accepted it leads on, refused it hands the situation back. Assumes nothing.
use Rattle.std.specs.Prelude.{if◌then◌else◌}
use Prim.Native.Nat.{ℕ, zero, suc}
use mathlib.Core.Path.{◌≡◌, refl, sym, ap, ◌∙◌}
use mathlib.Core.Bool.{Bool, true, false, not}
use native.Mathlib.Omega.{arith}
use borrow.Author.Tests.{ne_eqb}
use lib.Dec.{eqb}
use Rattle.rulebook.specs.Situation.{Kept}
use Rattle.rulebook.specs.Apply.{known, argument_right, accepted, refused, own_refusal, reached, acted, stepped, Outcome}
use Rattle.block.specs.declared.line.Plan.{Plan}
use Rattle.block.specs.declared.event.Event.{Event}

abbrev judged : Bool → Bool → ℕ → Kept → Kept → Outcome
judged k a r x y = if not k then refused 3 x else if not a then refused 4 x else if eqb r 0 then accepted y else refused r x

abbrev by_refusal : ℕ → Kept → Kept → Outcome
by_refusal r x y = if eqb r 0 then accepted y else refused r x

later : (r : ℕ) → eqb (suc r) 0 ≡ false
later r = ne_eqb (suc r) 0 (λ e. omega arith)

is_refused : (r : ℕ) (x y : Kept) → by_refusal (suc r) x y ≡ refused (suc r) x
is_refused r x y = ap (λ (v : Bool). if v then accepted y else refused (suc r) x) (later r)

told : (k a : Bool) (r : ℕ) (x y : Kept) → judged k a r x y ≡ by_refusal (judged k a r x y).refusal x y
told false a r x y = refl
told true false r x y = refl
told true true zero x y = refl
told true true (suc r) x y = is_refused r x y ∙ sym (ap (λ (o : Outcome). by_refusal o.refusal x y) (is_refused r x y) ∙ is_refused r x y)

own_told : (r : ℕ) (x y : Kept) → (by_refusal r x y).refusal ≡ r
own_told zero x y = refl
own_told (suc r) x y = ap (λ (o : Outcome). o.refusal) (is_refused r x y)

-- what an event's two bytes are refused for, before anything else
abbrev bytes : Bool → Bool → ℕ
bytes k a = if not k then 3 else if not a then 4 else 0

bytes_first : (k a : Bool) (r : ℕ) (x y : Kept) → (bytes k a ≡ 0 → ⊥) → bytes k a ≡ (judged k a r x y).refusal
bytes_first false a r x y d = refl
bytes_first true false r x y d = refl
bytes_first true true r x y d = absurd (d refl)

bytes_pass : (k a : Bool) (r : ℕ) (x y : Kept) → bytes k a ≡ 0 → (judged k a r x y).refusal ≡ r
bytes_pass false a r x y h = absurd (omega (arith, h))
bytes_pass true false r x y h = absurd (omega (arith, h))
bytes_pass true true r x y h = own_told r x y

module _ (p : Plan) (x : Kept) (e : Event) where
  pub by_its_refusal : stepped p x e ≡ by_refusal (stepped p x e).refusal x (reached p x e)
  unfolding stepped acted
  by_its_refusal = told (known e) (argument_right p e) (own_refusal p x e) x (reached p x e)

  pub as_accepted : (stepped p x e).refusal ≡ 0 → stepped p x e ≡ accepted (reached p x e)
  as_accepted h = by_its_refusal ∙ ap (λ (r : ℕ). by_refusal r x (reached p x e)) h

  pub as_refused : ((stepped p x e).refusal ≡ 0 → ⊥) → stepped p x e ≡ refused (stepped p x e).refusal x
  as_refused d = by_its_refusal ∙ rw (ne_eqb (stepped p x e).refusal 0 d)

  pub leads_on : (stepped p x e).refusal ≡ 0 → (stepped p x e).next ≡ reached p x e
  leads_on h = ap (λ (o : Outcome). o.next) (as_accepted h)

  pub acted_refusal : (acted p x e).refusal ≡ own_refusal p x e
  unfolding acted
  acted_refusal = own_told (own_refusal p x e) x (reached p x e)

  module _ {n : ℕ} (h : n ≡ bytes (known e) (argument_right p e)) where
    pub bytes_refused : (n ≡ 0 → ⊥) → n ≡ (stepped p x e).refusal
    unfolding stepped acted
    bytes_refused d = h ∙ bytes_first (known e) (argument_right p e) (own_refusal p x e) x (reached p x e) (λ z. d (h ∙ z))

    pub bytes_accepted : n ≡ 0 → {r : ℕ} → r ≡ own_refusal p x e → r ≡ (stepped p x e).refusal
    unfolding stepped acted
    bytes_accepted z g = g ∙ sym (bytes_pass (known e) (argument_right p e) (own_refusal p x e) x (reached p x e) (sym h ∙ z))

  -- of an event whose code is known and whose argument is right
  pub judged_refusal : known e ≡ true → argument_right p e ≡ true → (stepped p x e).refusal ≡ own_refusal p x e
  unfolding stepped
  judged_refusal k a = rw (k, a) acted_refusal
