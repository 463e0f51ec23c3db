-- Nothing here has to be believed. The walk, which goes straight to where it continues, meets what keeping the later answers of the whole key gives, and in the same order.
-- By induction on the length that remains, for every list of places, so without a condition.
use Prim.Native.Nat.{ℕ, zero, suc, ◌+◌, ◌-◌, ◌≤◌, ◌<◌}
use mathlib.Core.Path.{◌≡◌, refl, sym, ap, ◌∙◌, fun_ext}
use mathlib.Core.Bool.{Bool, true, false, cond}
use mathlib.Core.List.{List, [], ◌∷◌, ◌++◌}
use native.Mathlib.Omega.{arith}
use lib.ListN.{drop, get_or}
use borrow.Author.Tests.{lt-ltb}
use Rattle.keylaws.specs.Rules.{Rules, Word, accepts}
use Rattle.keylaws.specs.Key.{empty_if, through, in_turn, answers}
use Rattle.keylaws.specs.Order.{before}
use Rattle.keylaws.specs.Continuation.{keep}
use Rattle.keylaws.specs.Walk.{empty_off, tries, aims, starts, walk}
use Rattle.keylaws.proofs.Among.{after_place}
use Rattle.keylaws.proofs.OrderLaws.{before_lt, before_gt, before_eq, before_empty}
use Rattle.keylaws.proofs.Keeping.{keep_all, keep_none, keep_append, keep_place}

turns_suc : (f : ℕ → List Word) (p m : ℕ) → in_turn f p (suc m) ≡ f p ++ in_turn f (p + 1) m
unfolding in_turn
turns_suc f p m = refl

module _ (R : Rules) where
  tries_suc : (f : Bool → R.Situation → List Word) (s : R.Situation) (on : Bool) (p m : ℕ) → tries R f s on p (suc m) ≡ through R (f on) s p ++ tries R f s false (p + 1) m
  unfolding tries
  tries_suc f s on p m = refl

  -- the words through one place
  keep_through : (t u : Word → Bool) (f : R.Situation → List Word) (s : R.Situation) (p : ℕ) → ((w : Word) → t (p ∷ w) ≡ u w) → keep t (through R f s p) ≡ through R (λ v. keep u (f v)) s p
  unfolding through keep
  keep_through t u f s p h = go (accepts R s p)
    where
      go : (b : Bool) → keep t (cond b (after_place p (f (R.next s p))) []) ≡ cond b (after_place p (keep u (f (R.next s p)))) []
      go true = keep_place t u p h (f (R.next s p))
      go false = refl

  through_none : (s : R.Situation) (p : ℕ) → through R (λ v. []) s p ≡ []
  unfolding through
  through_none s p = go (accepts R s p)
    where
      go : (b : Bool) → cond b (after_place p []) [] ≡ []
      go true = refl
      go false = refl

  none_through : (t : Word → Bool) (f : R.Situation → List Word) (s : R.Situation) (p : ℕ) → ((w : Word) → t (p ∷ w) ≡ false) → keep t (through R f s p) ≡ []
  none_through t f s p h = rw (keep_through t (λ w. false) f s p h, fun_ext (λ (v : R.Situation). keep_none (λ w. false) (λ w. refl) (f v))) (through_none s p)

  all_through : (t : Word → Bool) (f : R.Situation → List Word) (s : R.Situation) (p : ℕ) → ((w : Word) → t (p ∷ w) ≡ true) → keep t (through R f s p) ≡ through R f s p
  all_through t f s p h = keep_through t (λ w. true) f s p h ∙ ap (λ (g : R.Situation → List Word). through R g s p) (fun_ext (λ (v : R.Situation). keep_all (λ w. true) (f v) (λ w m. refl)))

  -- the places from p on, all of whose words are kept
  keep_turns : (t : Word → Bool) (f : R.Situation → List Word) (s : R.Situation) (m p : ℕ) → ((q : ℕ) (w : Word) → p ≤ q → t (q ∷ w) ≡ true) → keep t (in_turn (through R f s) p m) ≡ in_turn (through R f s) p m
  unfolding in_turn keep
  keep_turns t f s zero p h = refl
  keep_turns t f s (suc m) p h =
      keep_append t (through R f s p) (in_turn (through R f s) (p + 1) m)
      ∙ (rw (all_through t f s p (λ w. h p w (omega arith)), keep_turns t f s m (p + 1) (λ q w g. h q w (omega arith))) refl)

  -- off the way the places are all tried alike
  tries_off : (f : Bool → R.Situation → List Word) (s : R.Situation) (m p : ℕ) → tries R f s false p m ≡ in_turn (through R (f false) s) p m
  unfolding tries in_turn
  tries_off f s zero p = refl
  tries_off f s (suc m) p = ap (λ (l : List Word). through R (f false) s p ++ l) (tries_off f s m (p + 1))

  module _ (f : Bool → R.Situation → List Word) (g : R.Situation → List Word) (s : R.Situation) (c : Word) (ef : f false ≡ g) (et : f true ≡ (λ v. keep (before c) (g v))) where
    -- the places from p on, where the continuation goes on with p
    keep_here : (m p : ℕ) → keep (before (p ∷ c)) (in_turn (through R g s) p (suc m)) ≡ tries R f s true p (suc m)
    keep_here m p = rw (turns_suc, tries_suc, tries_off, ef, et, keep_append, keep_through (before (p ∷ c)) (before c) g s p (before_eq p c), keep_turns (before (p ∷ c)) g s m (p + 1) (λ q w h. before_lt p q c w (omega arith))) refl

    -- .. and where with p + j
    keep_there : (j m p : ℕ) → keep (before ((p + j) ∷ c)) (in_turn (through R g s) p m) ≡ tries R f s true (p + j) (m - j)
    unfolding in_turn keep tries
    keep_there zero zero p = refl
    keep_there zero (suc m) p = let e : p + 0 ≡ p = omega arith in let d : suc m - 0 ≡ suc m = omega arith in rw (e, d) (keep_here m p)
    keep_there (suc j) zero p = let d : 0 - suc j ≡ 0 = omega arith in rw d refl
    keep_there (suc j) (suc m) p =
        let e : p + suc j ≡ p + 1 + j = omega arith in
        let d : suc m - suc j ≡ m - j = omega arith in
        rw (keep_append, none_through (before ((p + suc j) ∷ c)) g s p (λ w. before_gt (p + suc j) p c w (omega arith)), e, d) (keep_there j m (p + 1))

  pub walk_off : (k : ℕ) (c : Word) → walk R k c false ≡ answers R k
  unfolding walk answers empty_off aims starts
  walk_off zero c = refl
  walk_off (suc k) c =
      let e : R.events + 1 - 1 ≡ R.events = omega arith in
      fun_ext (λ (s : R.Situation). rw (e, tries_off, walk_off k (drop 1 c)) refl)

  keep_empty : (c : Word) (h : Bool) → keep (before c) (empty_if h) ≡ []
  unfolding keep empty_if
  keep_empty c true = rw before_empty refl
  keep_empty c false = refl

  at_node : (f : Bool → R.Situation → List Word) (g : R.Situation → List Word) (s : R.Situation) (c : Word) → f false ≡ g → f true ≡ (λ v. keep (before (drop 1 c)) (g v))
      → tries R f s (aims true (get_or c 0 0)) (starts true (get_or c 0 0)) (R.events + 1 - starts true (get_or c 0 0)) ≡ keep (before c) (in_turn (through R g s) 1 R.events)
  unfolding aims starts before
  at_node f g s [] ef et =
      let e : R.events + 1 - 1 ≡ R.events = omega arith in
      rw (e, tries_off, ef) (sym (keep_turns (before []) g s R.events 1 (λ q w h. refl)))
  at_node f g s (zero ∷ c) ef et =
      let e : R.events + 1 - 1 ≡ R.events = omega arith in
      rw (e, tries_off, ef) (sym (keep_turns (before (0 ∷ c)) g s R.events 1 (λ q w h. before_lt 0 q c w (omega arith))))
  at_node f g s (suc q ∷ c) ef et =
      let h : 0 < suc q = omega arith in
      let e : R.events + 1 - suc q ≡ R.events - q = omega arith in
      let d : suc q ≡ 1 + q = omega arith in
      rw (lt-ltb _ _ h, e, d) (sym (keep_there f g s c ef et q R.events 1))

  pub walk_on : (k : ℕ) (c : Word) → walk R k c true ≡ (λ s. keep (before c) (answers R k s))
  unfolding walk answers empty_off
  walk_on zero c = fun_ext (λ (s : R.Situation). sym (keep_empty c (R.holds s)))
  walk_on (suc k) c = fun_ext (λ (s : R.Situation). rw (keep_append, keep_empty) (at_node (walk R k (drop 1 c)) (answers R k) s c (walk_off k (drop 1 c)) (walk_on k (drop 1 c))))
