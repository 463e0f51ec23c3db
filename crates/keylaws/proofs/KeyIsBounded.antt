-- A key has no more sequences than there are words of permitted places up to its length, and no part of it has more. Assumes nothing.
use Prim.Native.Nat.{ℕ, zero, suc, ◌+◌, ◌*◌, ◌/◌, ◌≤◌}
use mathlib.Core.Bool.{Bool, true, false, cond}
use mathlib.Core.Path.{◌≡◌, sym, subst}
use mathlib.Core.List.{List, [], ◌∷◌, ◌++◌, map}
use native.Mathlib.Nat.{le_refl, le_trans, add-le-add, mul-le-mul, min-le_right, suc-mul}
use native.Mathlib.Omega.{arith}
use lib.ListN.{length, length-append, length-map}
use Rattle.keylaws.specs.Rules.{Rules, Word, accepts}
use Rattle.keylaws.specs.Key.{empty_if, through, in_turn, answers}
use Rattle.keylaws.specs.Continuation.{comes_after, keep, answers_after}
use Rattle.keylaws.specs.Parts.{part, part_after}

-- the number of words of n places, up to a length
unfoldable most : ℕ → ℕ → ℕ
most n zero = 1
most n (suc left) = 1 + n * most n left

most_rises : (n m left : ℕ) → n ≤ m → most n left ≤ most m left
unfolding most
most_rises n m zero h = le_refl 1
most_rises n m (suc left) h = add-le-add (le_refl 1) (mul-le-mul h (most_rises n m left h))

empty_most : (v : Bool) → length (empty_if v) ≤ 1
unfolding empty_if
empty_most true = omega arith
empty_most false = omega arith

through_most : (R : Rules) (from : R.Situation → List Word) (k : ℕ) → ((s : R.Situation) → length (from s) ≤ k) → (s : R.Situation) (p : ℕ) → length (through R from s p) ≤ k
unfolding through
through_most R from k h s p = go (accepts R s p)
  where
    go : (v : Bool) → length (cond v (map (λ (w : Word). p ∷ w) (from (R.next s p))) []) ≤ k
    go true = subst (λ (n : ℕ). n ≤ k) (sym (length-map (from (R.next s p)) (λ (w : Word). p ∷ w))) (h (R.next s p))
    go false = omega arith

turns_most : (at : ℕ → List Word) (k : ℕ) → ((p : ℕ) → length (at p) ≤ k) → (p m : ℕ) → length (in_turn at p m) ≤ m * k
unfolding in_turn
turns_most at k h p zero = omega arith
turns_most at k h p (suc m) =
    let here : length (at p) ≤ k = h p in
    let later : length (in_turn at (p + 1) m) ≤ m * k = turns_most at k h (p + 1) m in
    let both : length (at p ++ in_turn at (p + 1) m) ≡ length (at p) + length (in_turn at (p + 1) m) = length-append (at p) (in_turn at (p + 1) m) in
    let more : suc m * k ≡ m * k + k = suc-mul m k in
    omega arith

key_is_bounded : (R : Rules) (limit : ℕ) (s : R.Situation) → length (answers R limit s) ≤ most R.events limit
unfolding answers most
key_is_bounded R zero s = empty_most (R.holds s)
key_is_bounded R (suc left) s =
    let at : ℕ → List Word = through R (answers R left) s in
    let empty : length (empty_if (R.holds s)) ≤ 1 = empty_most (R.holds s) in
    let turns : length (in_turn at 1 R.events) ≤ R.events * most R.events left =
    turns_most at (most R.events left) (through_most R (answers R left) (most R.events left) (key_is_bounded R left) s) 1 R.events in
    let both : length (empty_if (R.holds s) ++ in_turn at 1 R.events) ≡ length (empty_if (R.holds s)) + length (in_turn at 1 R.events) =
    length-append (empty_if (R.holds s)) (in_turn at 1 R.events) in
    omega arith

kept_most : (test : Word → Bool) (ws : List Word) → length (keep test ws) ≤ length ws
unfolding keep
kept_most test [] = le_refl 0
kept_most test (w ∷ ws) = go (test w) (kept_most test ws)
  where
    go : (v : Bool) → length (keep test ws) ≤ length ws → length (cond v (w ∷ keep test ws) (keep test ws)) ≤ suc (length ws)
    go true h = omega arith
    go false h = omega arith

part_is_bounded : (R : Rules) (limit : ℕ) (s : R.Situation) (x room : List ℕ) → (part_after R limit s x room).count ≤ most R.events limit
unfolding part answers_after
part_is_bounded R limit s x room =
    le_trans (min-le_right (length room / 6) (length (answers_after R limit s x)))
    (le_trans (kept_most (comes_after x) (answers R limit s)) (key_is_bounded R limit s))

-- twelve events, and a length of five
twelve_to_five : (limit : ℕ) → limit ≤ 5 → most 12 limit ≤ 271453
unfolding most
twelve_to_five zero h = omega arith
twelve_to_five (suc zero) h = omega arith
twelve_to_five (suc (suc zero)) h = omega arith
twelve_to_five (suc (suc (suc zero))) h = omega arith
twelve_to_five (suc (suc (suc (suc zero)))) h = omega arith
twelve_to_five (suc (suc (suc (suc (suc zero))))) h = omega arith
twelve_to_five (suc (suc (suc (suc (suc (suc limit)))))) h = absurd (omega arith)

module _ (R : Rules) (limit : ℕ) (s : R.Situation) (twelve : R.events ≤ 12) (five : limit ≤ 5) where
  few : most R.events limit ≤ 271453
  few = le_trans (most_rises R.events 12 limit twelve) (twelve_to_five limit five)

  pub key_few : length (answers R limit s) ≤ 271453
  key_few = le_trans (key_is_bounded R limit s) few

  pub part_few : (x room : List ℕ) → (part_after R limit s x room).count ≤ 271453
  part_few x room = le_trans (part_is_bounded R limit s x room) few
