-- Nothing here has to be believed. A situation's own answer is one slot, where it ends one, and nothing otherwise; with no length left that is
-- all that the walk has from there. From the definitions.
use Prim.Native.Nat.{ℕ, ◌+◌}
use mathlib.Core.Path.{◌≡◌, refl}
use mathlib.Core.Bool.{Bool, true, false, not, true≢false, false≢true}
use mathlib.Core.List.{List, [], ◌∷◌, map}
use lib.ListN.{drop}
use Rattle.words.specs.Words.{◌and◌}
use Rattle.keylaws.specs.Rules.{Rules}
use Rattle.keylaws.specs.Key.{empty_if}
use Rattle.keylaws.specs.Parts.{Part, handed}
use Rattle.keylaws.specs.Walk.{empty_off, walk}
use Rattle.keylaws.specs.Sheet.{grows, put}
use Rattle.keylaws.proofs.WalkSteps.{node_leaf}

module _ (slot : List ℕ) (d : ℕ) (o : Part) where
  pub one_put : (on holds : Bool) (p : Part) → (not on and holds) ≡ true → p ≡ put o (slot ∷ []) → p ≡ put o (map (grows slot d) (empty_off on holds))
  unfolding empty_off empty_if grows
  one_put true holds p h e = absurd (false≢true h)
  one_put false true p h e = e
  one_put false false p h e = absurd (false≢true h)

  pub none_put : (on holds : Bool) → (not on and holds) ≡ false → o ≡ put o (map (grows slot d) (empty_off on holds))
  unfolding empty_off empty_if put
  none_put true holds h = refl
  none_put false true h = absurd (true≢false h)
  none_put false false h = refl

module _ (R : Rules) (on : Bool) (from : List ℕ) (d : ℕ) (s : R.Situation) (slot room : List ℕ) (count k : ℕ) (last : k ≡ 0) where
  abbrev all_put : Part
  all_put = put (handed room count false) (map (grows slot d) (walk R k (drop (d + 1) from) on s))

  pub last_one : (l : List ℕ) (n : ℕ) (m : Bool) → (not on and R.holds s) ≡ true → handed l n m ≡ put (handed room count false) (slot ∷ []) → handed l n m ≡ all_put
  last_one l n m h e = node_leaf R on from d s slot (handed room count false) l n m (one_put slot d (handed room count false) on (R.holds s) (handed l n m) h e) k last

  pub last_none : (not on and R.holds s) ≡ false → handed room count false ≡ all_put
  last_none h = node_leaf R on from d s slot (handed room count false) room count false (none_put slot d (handed room count false) on (R.holds s) h) k last
