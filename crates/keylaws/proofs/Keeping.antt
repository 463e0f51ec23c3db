-- What keeping the words that pass a test does to a list. From its definition.
use Prim.Native.Nat.{ℕ}
use mathlib.Core.Path.{◌≡◌, refl, ap, ◌∙◌}
use mathlib.Core.Logic.{◌⊎◌, inl, inr, ⊎_elim}
use mathlib.Core.Bool.{Bool, true, false, cond}
use mathlib.Core.List.{List, [], ◌∷◌, ◌++◌}
use mathlib.Core.List.Memᴰ.{cases_cons as split-cons}
use mathlib.Core.List.Memᴰ.{head as here}
use mathlib.Core.List.Memᴰ.{not-nil as none}
use mathlib.Core.List.Memᴰ.{tail as later}
use Rattle.keylaws.specs.Rules.{Word}
use Rattle.keylaws.specs.Key.{◌among◌}
use Rattle.keylaws.specs.Continuation.{keep}
use Rattle.keylaws.proofs.Tests.{never}
use Rattle.keylaws.proofs.Among.{after_place}

-- ---- which words are kept
pub of_keep : (t : Word → Bool) (v : Word) (ws : List Word) → v among keep t ws → (v among ws) × (t v ≡ true)
unfolding keep
of_keep t v [] m = absurd (none m)
of_keep t v (w ∷ ws) m = go (λ n. of_keep t v ws n) (t w) refl m
  where
    go : (v among keep t ws → (v among ws) × (t v ≡ true)) → (b : Bool) → t w ≡ b → v among cond b (w ∷ keep t ws) (keep t ws) → (v among (w ∷ ws)) × (t v ≡ true)
    go ih true e n = ⊎_elim (λ i. (here i, ap t i ∙ e)) (λ i. (later (ih i).0, (ih i).1)) (split-cons n)
    go ih false e n = (later (ih n).0, (ih n).1)

pub in_keep : (t : Word → Bool) (v : Word) (ws : List Word) → v among ws → t v ≡ true → v among keep t ws
unfolding keep
in_keep t v [] m e = absurd (none m)
in_keep t v (w ∷ ws) m e = go (λ n. in_keep t v ws n e) (t w) refl (split-cons m)
  where
    go : (v among ws → v among keep t ws) → (b : Bool) → t w ≡ b → (v ≡ w) ⊎ (v among ws) → v among cond b (w ∷ keep t ws) (keep t ws)
    go ih true g (inl i) = here i
    go ih true g (inr n) = later (ih n)
    go ih false g (inl i) = absurd (never (t v) e (ap t i ∙ g))
    go ih false g (inr n) = ih n

-- ---- all, none
pub keep_all : (t : Word → Bool) (ws : List Word) → ((v : Word) → v among ws → t v ≡ true) → keep t ws ≡ ws
unfolding keep
keep_all t [] h = refl
keep_all t (w ∷ ws) h = rw (h w (here refl), keep_all t ws (λ v m. h v (later m))) refl

pub keep_none : (t : Word → Bool) → ((w : Word) → t w ≡ false) → (ws : List Word) → keep t ws ≡ []
unfolding keep
keep_none t h [] = refl
keep_none t h (w ∷ ws) = rw (h w) (keep_none t h ws)

-- ---- in two lists, and after a place
cond_append : (b : Bool) (w : Word) (l r : List Word) → cond b (w ∷ (l ++ r)) (l ++ r) ≡ cond b (w ∷ l) l ++ r
cond_append true w l r = refl
cond_append false w l r = refl

pub keep_append : (t : Word → Bool) (vs ws : List Word) → keep t (vs ++ ws) ≡ keep t vs ++ keep t ws
unfolding keep
keep_append t [] ws = refl
keep_append t (v ∷ vs) ws = rw (keep_append t vs ws) (cond_append (t v) v (keep t vs) (keep t ws))

cond_place : (b : Bool) (p : ℕ) (w : Word) (l : List Word) → cond b ((p ∷ w) ∷ after_place p l) (after_place p l) ≡ after_place p (cond b (w ∷ l) l)
cond_place true p w l = refl
cond_place false p w l = refl

pub keep_place : (t u : Word → Bool) (p : ℕ) → ((w : Word) → t (p ∷ w) ≡ u w) → (ws : List Word) → keep t (after_place p ws) ≡ after_place p (keep u ws)
unfolding keep
keep_place t u p h [] = refl
keep_place t u p h (w ∷ ws) = rw (h w, keep_place t u p h ws) (cond_place (u w) p w (keep u ws))
