-- Nothing here has to be believed. The steps of the walk, as the calls of an engine take them: what each puts into the room. From the definitions, for the proofs of an engine.
use Prim.Native.Nat.{ℕ, zero, suc, ◌+◌, ◌-◌, ◌≤◌, ◌<◌}
use mathlib.Core.Path.{◌≡◌, refl, sym, ap, ◌∙◌}
use mathlib.Core.Bool.{Bool, true, false}
use mathlib.Core.List.{List, [], ◌∷◌, ◌++◌, map, map-append}
use native.Mathlib.Omega.{arith}
use lib.ListN.{drop, get_or}
use lib.Seq.{drop-drop, get_or-drop}
use Rattle.keylaws.specs.Rules.{Rules, Word, accepts}
use Rattle.keylaws.specs.Key.{through}
use Rattle.keylaws.specs.Parts.{Part, handed}
use Rattle.keylaws.specs.Walk.{empty_off, tries, aims, starts, walk}
use Rattle.keylaws.specs.Sheet.{grow, grows, put}
use Rattle.keylaws.proofs.Among.{after_place}
use Rattle.keylaws.proofs.SheetSteps.{put_stop, put_on}

grows_map : (x : List ℕ) (d p : ℕ) (ws : List Word) → map (grows x d) (after_place p ws) ≡ map (grows (grow x d p) (d + 1)) ws
unfolding grows
grows_map x d p [] = refl
grows_map x d p (w ∷ ws) = ap (λ (l : List (List ℕ)). grows (grow x d p) (d + 1) w ∷ l) (grows_map x d p ws)

-- ---- trying the events from p on
module _ (R : Rules) (f : Bool → R.Situation → List Word) (s : R.Situation) (on : Bool) (p : ℕ) (x : List ℕ) (d : ℕ) (o : Part) where
  -- past the last place
  pub try_none : R.events < p → o ≡ put o (map (grows x d) (tries R f s on p (R.events + 1 - p)))
  unfolding tries put
  try_none h = let e : R.events + 1 - p ≡ 0 = omega arith in rw e refl

  -- an event that is refused
  pub try_refused : (b : Part) → p ≤ R.events → accepts R s p ≡ false → b ≡ put o (map (grows x d) (tries R f s false (p + 1) (R.events + 1 - (p + 1)))) → b ≡ put o (map (grows x d) (tries R f s on p (R.events + 1 - p)))
  unfolding tries through
  try_refused b h r g = let e : R.events + 1 - p ≡ suc (R.events + 1 - (p + 1)) = omega arith in rw (e, r) g

  accepted : p ≤ R.events → accepts R s p ≡ true
      → map (grows x d) (tries R f s on p (R.events + 1 - p)) ≡ map (grows (grow x d p) (d + 1)) (f on (R.next s p)) ++ map (grows x d) (tries R f s false (p + 1) (R.events + 1 - (p + 1)))
  unfolding tries through
  accepted h r = let e : R.events + 1 - p ≡ suc (R.events + 1 - (p + 1)) = omega arith in rw (e, r, map-append, grows_map x d p) refl

  -- an event that is accepted: what it leads to left no room, or the events after it went on
  module _ (u : R.Situation) (y : List ℕ) (l : List ℕ) (n : ℕ) (m : Bool) (h : p ≤ R.events) (r : accepts R s p ≡ true) (eu : u ≡ R.next s p) (ey : y ≡ grow x d p)
      (e : handed l n m ≡ put o (map (grows y (d + 1)) (f on u))) where
    pub try_full : m ≡ true → handed l n true ≡ put o (map (grows x d) (tries R f s on p (R.events + 1 - p)))
    try_full z = ap (handed l n) (sym z) ∙ rw (accepted h r, ← eu, ← ey) (put_stop l n m o _ _ e z)

    pub try_on : (b : Part) → m ≡ false → b ≡ put (handed l n false) (map (grows x d) (tries R f s false (p + 1) (R.events + 1 - (p + 1)))) → b ≡ put o (map (grows x d) (tries R f s on p (R.events + 1 - p)))
    try_on b z g = rw (accepted h r, ← eu, ← ey) (put_on l n m o b _ _ e z g)

-- ---- exploring a situation
head_drop : (d : ℕ) (l : List ℕ) → get_or (drop (d + 1) l) 0 0 ≡ get_or l (d + 1) 0
head_drop d l = let e : d + 1 + 0 ≡ d + 1 = omega arith in rw (get_or-drop, e)

module _ (R : Rules) (on : Bool) (cont : List ℕ) (d : ℕ) (s : R.Situation) (x : List ℕ) (o : Part) (l : List ℕ) (n : ℕ) (m : Bool) (e : handed l n m ≡ put o (map (grows x d) (empty_off on (R.holds s)))) where
  node : (k : ℕ) → map (grows x d) (walk R (suc k) (drop (d + 1) cont) on s)
      ≡ map (grows x d) (empty_off on (R.holds s)) ++ map (grows x d) (tries R (walk R k (drop (d + 1 + 1) cont)) s (aims on (get_or cont (d + 1) 0)) (starts on (get_or cont (d + 1) 0)) (R.events + 1 - starts on (get_or cont (d + 1) 0)))
  unfolding walk
  node k = simp (map-append, drop-drop, head_drop)

  pub node_leaf : (k : ℕ) → k ≡ 0 → handed l n m ≡ put o (map (grows x d) (walk R k (drop (d + 1) cont) on s))
  unfolding walk
  node_leaf k h = rw h e

  full : (k : ℕ) → m ≡ true → handed l n m ≡ put o (map (grows x d) (walk R k (drop (d + 1) cont) on s))
  full zero z = node_leaf 0 refl
  full (suc k) z = rw node (put_stop l n m o _ _ e z)

  pub node_full : (k : ℕ) → m ≡ true → handed l n true ≡ put o (map (grows x d) (walk R k (drop (d + 1) cont) on s))
  node_full k z = ap (handed l n) (sym z) ∙ full k z

  pub node_on : (b : Part) (k : ℕ) → ¬ (k ≡ 0) → (q : ℕ) → (a : Bool) → a ≡ aims on (get_or cont (d + 1) 0) → q ≡ starts on (get_or cont (d + 1) 0) → m ≡ false
      → b ≡ put (handed l n false) (map (grows x d) (tries R (walk R (k - 1) (drop (d + 1 + 1) cont)) s a q (R.events + 1 - q))) → b ≡ put o (map (grows x d) (walk R k (drop (d + 1) cont) on s))
  node_on b k h q a ea eq z g =
      let ek : k ≡ suc (k - 1) = omega arith in
      let w : b ≡ put o (map (grows x d) (walk R (suc (k - 1)) (drop (d + 1) cont) on s)) = rw (node, ← ea, ← eq) (put_on l n m o b _ _ e z g) in
      w ∙ ap (λ (j : ℕ). put o (map (grows x d) (walk R j (drop (d + 1) cont) on s))) (sym ek)
