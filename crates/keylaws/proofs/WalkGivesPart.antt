-- Nothing here has to be believed. What the whole walk puts into a room is the part of the key that the call promises. From the walk's skipping and the closed form of writing.
use Prim.Native.Nat.{ℕ, zero, suc, ◌+◌, ◌-◌, ◌≤◌}
use mathlib.Core.Path.{◌≡◌, refl, sym, ap, ◌∙◌}
use mathlib.Core.Logic.{◌⊎◌, inl, inr}
use mathlib.Core.Bool.{Bool, true, false, not}
use mathlib.Core.List.Memᴰ.{head as here}
use mathlib.Core.List.Memᴰ.{tail as later}
use mathlib.Core.List.{List, [], ◌∷◌, ◌++◌, map}
use native.Mathlib.Omega.{arith}
use lib.ListN.{length, drop, get_or, replicate}
use lib.Dec.{eqb}
use Rattle.keylaws.specs.Rules.{Rules, Word}
use Rattle.keylaws.specs.Key.{◌among◌}
use Rattle.keylaws.specs.Slots.{slot_of, word_of, is_slot}
use Rattle.keylaws.specs.Continuation.{from_start, is_continuation, answers_after}
use Rattle.keylaws.specs.Parts.{Part, handed, part_after}
use Rattle.keylaws.specs.Walk.{empty_off, tries, aims, starts, walk}
use Rattle.keylaws.specs.Sheet.{blank, grows, put}
use Rattle.keylaws.proofs.SlotsOfWords.{slot_is, slot_not_start, continuation_is}
use Rattle.keylaws.proofs.AfterContinuation.{after_word, after_the_start, short_after}
use Rattle.keylaws.proofs.WalkSkips.{walk_off, walk_on}
use Rattle.keylaws.proofs.SheetFills.{put_part}

-- ---- zeros at the end of a continuation's places change nothing
step : (R : Rules) → ℕ → (Bool → R.Situation → List Word) → Bool → R.Situation → List Word
step R q f on s = empty_off on (R.holds s) ++ tries R f s (aims on q) (starts on q) (R.events + 1 - starts on q)

walk_zeros : (R : Rules) (k : ℕ) (c : Word) (j : ℕ) → walk R k (c ++ replicate j 0) ≡ walk R k c
unfolding walk step
walk_zeros R zero c j = refl
walk_zeros R (suc k) [] zero = refl
walk_zeros R (suc k) [] (suc j) = ap (step R 0) (walk_zeros R k [] j)
walk_zeros R (suc k) (p ∷ c) j = ap (step R p) (walk_zeros R k c j)

places_of_slot : (w : Word) → drop 1 (slot_of w) ≡ w ++ replicate (5 - length w) 0
unfolding slot_of
places_of_slot w = refl

-- ---- slots grown from the blank one are the words' slots
grows_slot : (w : Word) → length w ≤ 5 → grows blank 0 w ≡ slot_of w
unfolding grows slot_of
grows_slot [] h = refl
grows_slot (a ∷ []) h = refl
grows_slot (a ∷ b ∷ []) h = refl
grows_slot (a ∷ b ∷ c ∷ []) h = refl
grows_slot (a ∷ b ∷ c ∷ d ∷ []) h = refl
grows_slot (a ∷ b ∷ c ∷ d ∷ e ∷ []) h = refl
grows_slot (a ∷ b ∷ c ∷ d ∷ e ∷ f ∷ w) h = absurd (omega arith)

grown : (ws : List Word) → ((w : Word) → w among ws → length w ≤ 5) → map (grows blank 0) ws ≡ map slot_of ws
grown [] h = refl
grown (w ∷ ws) h = rw (grows_slot w (h w (here refl)), grown ws (λ v m. h v (later m))) refl

module _ (R : Rules) (limit : ℕ) (start : R.Situation) (h5 : limit ≤ 5) where
  -- what the walk meets, by the form of the continuation
  meets : (x : List ℕ) → (x ≡ from_start) ⊎ (is_slot R.events limit x ≡ true) → walk R limit (drop 1 x) (not (eqb (get_or x 0 0) 255)) start ≡ answers_after R limit start x
  unfolding from_start answers_after
  meets x (inl e) = rw e (ap (λ (f : R.Situation → List Word). f start) (walk_off R limit (drop 1 from_start)) ∙ sym (after_the_start R limit start))
  meets x (inr h) =
      let e : drop 1 x ≡ word_of x ++ replicate (5 - length (word_of x)) 0 = ap (λ (l : List ℕ). drop 1 l) (slot_is R.events limit h5 x h).0 ∙ places_of_slot (word_of x) in
      let n : eqb (get_or x 0 0) 255 ≡ false = slot_not_start R.events limit h5 x h in
      rw (n, after_word x n, e, walk_zeros, walk_on) refl

  pub walk_gives_part : (x room : List ℕ) (on : Bool) (p : Part) → is_continuation R.events limit x ≡ true → on ≡ not (eqb (get_or x 0 0) 255)
      → p ≡ put (handed room 0 false) (map (grows blank 0) (walk R limit (drop 1 x) on start)) → p ≡ part_after R limit start x room
  walk_gives_part x room on p c eo e =
      let ws = answers_after R limit start x in
      let short : (w : Word) → w among answers_after R limit start x → length w ≤ 5 = λ w m. let l = short_after R limit start x w m in omega arith in
      e ∙ (rw (eo, meets x (continuation_is R.events limit x c), grown ws short) (put_part ws room short))
