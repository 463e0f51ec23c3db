-- The order is a strict one, and puts a sequence before its extensions. From its definition.
use Prim.Native.Nat.{ℕ, ◌≤◌, ◌<◌}
use mathlib.Core.Path.{◌≡◌, refl, ◌∙◌}
use mathlib.Core.Logic.{◌⊎◌, inl, inr}
use mathlib.Core.Bool.{Bool, true, false, cond}
use mathlib.Core.List.{[], ◌∷◌, ◌++◌}
use native.Mathlib.Omega.{arith}
use lib.Dec.{ltb, eqb}
use borrow.Author.Tests.{lt-ltb, le-ltb, eq-eqb, ne_eqb, ltb-true, eqb-true}
use Rattle.keylaws.specs.Rules.{Word}
use Rattle.keylaws.specs.Order.{before}
use Rattle.keylaws.proofs.Tests.{never}

-- ---- by the first places
pub before_lt : (p q : ℕ) (v w : Word) → p < q → before (p ∷ v) (q ∷ w) ≡ true
unfolding before
before_lt p q v w h = rw (lt-ltb _ _ h) refl

pub before_gt : (p q : ℕ) (v w : Word) → q < p → before (p ∷ v) (q ∷ w) ≡ false
unfolding before
before_gt p q v w h = let g : q ≤ p = omega arith in let d : p ≡ q → ⊥ = omega arith in rw (le-ltb _ _ g, ne_eqb _ _ d) refl

pub before_eq : (p : ℕ) (v w : Word) → before (p ∷ v) (p ∷ w) ≡ before v w
unfolding before
before_eq p v w = let h : p ≤ p = omega arith in rw (le-ltb _ _ h, eq-eqb p p refl) refl

pub before_empty : (w : Word) → before w [] ≡ false
unfolding before
before_empty [] = refl
before_empty (p ∷ w) = refl

-- ---- a sequence stands before its extensions
pub before_extension : (w : Word) (p : ℕ) (v : Word) → before w (w ++ (p ∷ v)) ≡ true
unfolding before
before_extension [] p v = refl
before_extension (q ∷ w) p v = before_eq q w (w ++ (p ∷ v)) ∙ before_extension w p v

before_cases : (p q : ℕ) (v w : Word) → before (p ∷ v) (q ∷ w) ≡ true → (p < q) ⊎ ((p ≡ q) × (before v w ≡ true))
unfolding before
before_cases p q v w h = go (ltb p q) (eqb p q) refl refl h
  where
    go : (a b : Bool) → ltb p q ≡ a → eqb p q ≡ b → cond a true (cond b (before v w) false) ≡ true → (p < q) ⊎ ((p ≡ q) × (before v w ≡ true))
    go true b ea eb t = inl (ltb-true p q ea)
    go false true ea eb t = inr (eqb-true p q eb, t)
    go false false ea eb t = absurd (never false t refl)

-- ---- strict
pub before_irrefl : (w : Word) → before w w ≡ false
before_irrefl [] = before_empty []
before_irrefl (p ∷ w) = before_eq p w w ∙ before_irrefl w

pub before_trans : (u v w : Word) → before u v ≡ true → before v w ≡ true → before u w ≡ true
unfolding before
before_trans [] v [] h g = absurd (never _ g (before_empty v))
before_trans [] v (r ∷ w) h g = refl
before_trans (p ∷ u) [] w h g = absurd (never false h refl)
before_trans (p ∷ u) (q ∷ v) [] h g = absurd (never false g refl)
before_trans (p ∷ u) (q ∷ v) (r ∷ w) h g = go (λ i j. before_trans u v w i j) (before_cases p q u v h) (before_cases q r v w g)
  where
    go : (before u v ≡ true → before v w ≡ true → before u w ≡ true) → (p < q) ⊎ ((p ≡ q) × (before u v ≡ true)) → (q < r) ⊎ ((q ≡ r) × (before v w ≡ true)) → before (p ∷ u) (r ∷ w) ≡ true
    go ih (inl a) (inl b) = before_lt p r u w (omega arith)
    go ih (inl a) (inr b) = before_lt p r u w (omega (arith, b.0))
    go ih (inr a) (inl b) = before_lt p r u w (omega (arith, a.0))
    go ih (inr a) (inr b) = rw (a.0, b.0) (before_eq r u w ∙ ih a.1 b.1)

pub before_asym : (v w : Word) → before v w ≡ true → before w v ≡ false
before_asym v w h = go (before w v) refl
  where
    go : (b : Bool) → before w v ≡ b → before w v ≡ false
    go true e = absurd (never _ (before_trans v w v h e) (before_irrefl v))
    go false e = e
