-- What it takes to be among the lists that a key is made of, shown from their definitions.
use Prim.Native.Nat.{ℕ, zero, suc, ◌+◌, ◌≤◌, ◌<◌}
use mathlib.Core.Path.{◌≡◌, refl, sym, ap, subst}
use mathlib.Core.Logic.{⊎_elim}
use mathlib.Core.Bool.{Bool, true, false, cond}
use mathlib.Core.List.{List, [], ◌∷◌, ◌++◌, map}
use mathlib.Core.List.Memᴰ.{cases_cons as split-cons}
use mathlib.Core.List.Memᴰ.{head as here}
use mathlib.Core.List.Memᴰ.{not-nil as none}
use mathlib.Core.List.Memᴰ.{tail as later}
use mathlib.Core.List.{Memᴰ}
use mathlib.Core.List.Memᴰ.{append_cases as split-append}
use mathlib.Core.List.Memᴰ.{append_left as in_left}
use mathlib.Core.List.Memᴰ.{append_right as in_right}
use mathlib.Core.List.Memᴰ.{eq_of_singleton as only}
use native.Mathlib.Omega.{arith}
use native.Mathlib.Decide.{dec_le}
use lib.ListN.{length, take, get_or}
use lib.Seq.{split_at}
use Rattle.keylaws.specs.Rules.{Rules, Word, accepts}
use Rattle.keylaws.specs.Key.{empty_if, through, in_turn, ◌among◌}

-- the word at a place of a list
pub among_at : (ws : List Word) (j : ℕ) → j < length ws → get_or ws j [] among ws
among_at ws j h = subst (λ (l : List Word). get_or ws j [] among l) (sym (split_at ws j [] h)) (in_right (take j ws) (here refl))

-- the words of a list, each with p in front
abbrev pub after_place : ℕ → List Word → List Word
after_place p ws = map (λ (w : Word). p ∷ w) ws

pub in_map : {B : Type 0} (f : Word → B) (v : Word) (ws : List Word) → v among ws → Memᴰ (f v) (map f ws)
in_map f v ws (here e) = here (ap f e)
in_map f v ws (later {xs = xs} m) = later (in_map f v xs m)

pub of_map : {B : Type 0} (f : Word → B) (w : B) (ws : List Word) → Memᴰ w (map f ws) → (v : Word) × (w ≡ f v) × (v among ws)
of_map f w [] m = absurd (none m)
of_map f w (u ∷ ws) m = ⊎_elim (λ e. (u, e, here refl)) (λ n. let r = of_map f w ws n in (r.0, r.1, later r.2)) (split-cons m)

pub in_empty : (h : Bool) → h ≡ true → [] among empty_if h
unfolding empty_if
in_empty h e = rw e (here refl)

pub of_empty : (h : Bool) (w : Word) → w among empty_if h → (w ≡ []) × (h ≡ true)
unfolding empty_if
of_empty true w m = (only m, refl)
of_empty false w m = absurd (none m)

pub of_turns : (f : ℕ → List Word) (w : Word) (m p : ℕ) → w among in_turn f p m → (q : ℕ) × (p ≤ q) × (q < p + m) × (w among f q)
unfolding in_turn
of_turns f w zero p d = absurd (none d)
of_turns f w (suc m) p d =
    ⊎_elim (λ e. (p, omega arith, omega arith, e)) (λ e. let r = of_turns f w m (p + 1) e in (r.0, omega (arith, r.1), omega (arith, r.2), r.3)) (split-append (f p) d)

pub in_turns : (f : ℕ → List Word) (w : Word) (q m p : ℕ) → p ≤ q → q < p + m → w among f q → w among in_turn f p m
unfolding in_turn
in_turns f w q zero p h g d = absurd (omega arith)
in_turns f w q (suc m) p h g d = go (dec_le (p + 1) q) (λ i. in_turns f w q m (p + 1) i (omega arith) d)
  where
    go : Dec (p + 1 ≤ q) → (p + 1 ≤ q → w among in_turn f (p + 1) m) → w among f p ++ in_turn f (p + 1) m
    go (yes i) r = in_right (f p) (r i)
    go (no i) r = let e : q ≡ p = omega arith in in_left _ (subst (λ (j : ℕ). w among f j) e d)

module _ (R : Rules) where
  pub of_through : (f : R.Situation → List Word) (s : R.Situation) (q : ℕ) (w : Word) → w among through R f s q → (v : Word) × (w ≡ q ∷ v) × (accepts R s q ≡ true) × (v among f (R.next s q))
  unfolding through
  of_through f s q w d = go (accepts R s q) d
    where
      go : (b : Bool) → w among cond b (after_place q (f (R.next s q))) [] → (v : Word) × (w ≡ q ∷ v) × (b ≡ true) × (v among f (R.next s q))
      go true m = let r = of_map (λ (v : Word). q ∷ v) w (f (R.next s q)) m in (r.0, r.1, refl, r.2)
      go false m = absurd (none m)

  pub in_through : (f : R.Situation → List Word) (s : R.Situation) (q : ℕ) (v : Word) → accepts R s q ≡ true → v among f (R.next s q) → q ∷ v among through R f s q
  unfolding through
  in_through f s q v e d = rw e (in_map (λ (w : Word). q ∷ w) v (f (R.next s q)) d)
