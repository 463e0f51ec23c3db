-- The key is strictly increasing, so that each answer is in it once, and a sequence stands before its extensions. By induction on the length that remains.
use Prim.Native.Nat.{ℕ, zero, suc, ◌+◌, ◌≤◌, ◌<◌}
use mathlib.Core.Path.{◌≡◌, refl, sym, ◌∙◌}
use mathlib.Core.Logic.{⊎_elim}
use mathlib.Core.Bool.{Bool, true, false, cond}
use mathlib.Core.List.{List, [], ◌∷◌, ◌++◌}
use mathlib.Core.List.Memᴰ.{append_cases as split-append}
use mathlib.Core.List.Memᴰ.{head as here}
use mathlib.Core.List.Memᴰ.{not-nil as none}
use mathlib.Core.List.Memᴰ.{tail as later}
use native.Mathlib.Omega.{arith}
use native.Mathlib.Decide.{dec_le}
use lib.ListN.{length, get_or}
use Rattle.keylaws.specs.Rules.{Rules, Word, accepts}
use Rattle.keylaws.specs.Key.{empty_if, through, in_turn, answers, ◌among◌}
use Rattle.keylaws.specs.Order.{before}
use Rattle.keylaws.proofs.Among.{among_at, after_place, of_map, of_empty, of_turns, of_through}
use Rattle.keylaws.proofs.Tests.{never}
use Rattle.keylaws.proofs.OrderLaws.{before_lt, before_eq, before_irrefl, before_asym, before_extension}

-- each word stands before all that follow it
abbrev pub Rising : List Word → Type 0
Rising [] = Unit {0}
Rising (w ∷ ws) = ((v : Word) → v among ws → before w v ≡ true) × Rising ws

rising_append : (vs ws : List Word) → Rising vs → Rising ws → ((v w : Word) → v among vs → w among ws → before v w ≡ true) → Rising (vs ++ ws)
rising_append [] ws i j h = j
rising_append (v ∷ vs) ws i j h =
    (λ u m. ⊎_elim (λ n. i.0 u n) (λ n. h v u (here refl) n) (split-append vs m), rising_append vs ws i.1 j (λ a b m n. h a b (later m) n))

rising_place : (p : ℕ) (ws : List Word) → Rising ws → Rising (after_place p ws)
rising_place p [] i = tt
rising_place p (w ∷ ws) i =
    (λ v m. let r = of_map (λ (u : Word). p ∷ u) v ws m in rw r.1 (before_eq p w r.0 ∙ i.0 r.0 r.2), rising_place p ws i.1)

rising_empty : (h : Bool) → Rising (empty_if h)
unfolding empty_if
rising_empty true = (λ v m. absurd (none m), tt)
rising_empty false = tt

-- the words at two places of a rising list
at_places : (ws : List Word) → Rising ws → (i j : ℕ) → i < j → j < length ws → before (get_or ws i []) (get_or ws j []) ≡ true
at_places [] r i j h g = absurd (omega arith)
at_places (w ∷ ws) r i zero h g = absurd (omega arith)
at_places (w ∷ ws) r zero (suc j) h g = r.0 (get_or ws j []) (among_at ws j (omega arith))
at_places (w ∷ ws) r (suc i) (suc j) h g = at_places ws r.1 i j (omega arith) (omega arith)

module _ (R : Rules) where
  rising_through : (f : R.Situation → List Word) → ((t : R.Situation) → Rising (f t)) → (s : R.Situation) (p : ℕ) → Rising (through R f s p)
  unfolding through
  rising_through f h s p = go (accepts R s p)
    where
      go : (b : Bool) → Rising (cond b (after_place p (f (R.next s p))) [])
      go true = rising_place p (f (R.next s p)) (h (R.next s p))
      go false = tt

  rising_turns : (f : R.Situation → List Word) → ((t : R.Situation) → Rising (f t)) → (s : R.Situation) (m p : ℕ) → Rising (in_turn (through R f s) p m)
  unfolding in_turn
  rising_turns f h s zero p = tt
  rising_turns f h s (suc m) p = rising_append (through R f s p) _ (rising_through f h s p) (rising_turns f h s m (p + 1))
      (λ v w i j.
      let a = of_through R f s p v i in
      let q = of_turns (through R f s) w m (p + 1) j in
      let b = of_through R f s q.0 w q.3 in
      rw (a.1, b.1) (before_lt p q.0 a.0 b.0 (omega (arith, q.1))))

  pub rising : (limit : ℕ) (start : R.Situation) → Rising (answers R limit start)
  unfolding answers before
  rising zero s = rising_empty (R.holds s)
  rising (suc k) s = rising_append (empty_if (R.holds s)) _ (rising_empty (R.holds s)) (rising_turns (answers R k) (rising k) s _ 1)
      (λ v w i j.
      let q = of_turns (through R (answers R k) s) w _ 1 j in
      let b = of_through R (answers R k) s q.0 w q.3 in
      rw ((of_empty (R.holds s) v i).0, b.1) refl)

  module _ (limit : ℕ) (start : R.Situation) (i j : ℕ) where
    -- of two slots of the key the earlier stands before the later
    pub increasing : i < j → j < length (answers R limit start) → before (get_or (answers R limit start) i []) (get_or (answers R limit start) j []) ≡ true
    increasing = at_places (answers R limit start) (rising limit start) i j

  module _ (limit : ℕ) (start : R.Situation) (i j : ℕ) (hi : i < length (answers R limit start)) (hj : j < length (answers R limit start)) where
    -- two slots of the key that hold one word are one slot
    pub each_once : get_or (answers R limit start) i [] ≡ get_or (answers R limit start) j [] → i ≡ j
    each_once e = go (dec_le (suc i) j) (dec_le (suc j) i)
      where
        apart : (v w : Word) → v ≡ w → before v w ≡ true → ⊥
        apart v w d h = never _ h (rw d (before_irrefl w))

        go : Dec (suc i ≤ j) → Dec (suc j ≤ i) → i ≡ j
        go (yes h) d = absurd (apart _ _ e (increasing limit start i j h hj))
        go (no h) (yes g) = absurd (apart _ _ (sym e) (increasing limit start j i g hi))
        go (no h) (no g) = omega arith

    -- an extension stands later than its sequence
    pub extension_later : (p : ℕ) (v : Word) → get_or (answers R limit start) j [] ≡ get_or (answers R limit start) i [] ++ (p ∷ v) → i < j
    extension_later p v e = go (dec_le (suc i) j) (dec_le (suc j) i)
      where
        longer : before (get_or (answers R limit start) i []) (get_or (answers R limit start) j []) ≡ true
        longer = rw e (before_extension (get_or (answers R limit start) i []) p v)

        go : Dec (suc i ≤ j) → Dec (suc j ≤ i) → i < j
        go (yes h) d = h
        go (no h) (yes g) = absurd (never _ (increasing limit start j i g hi) (before_asym _ _ longer))
        go (no h) (no g) = let d : j ≡ i = omega arith in absurd (never _ (rw d at longer) (before_irrefl (get_or (answers R limit start) i [])))
