-- The slots within a question are the slots of its permitted words, no others; a continuation is such a slot or the one from the start. From the definitions of the tests.
use Prim.Native.Nat.{ℕ, zero, suc, ◌-◌, ◌≤◌}
use mathlib.Core.Path.{◌≡◌, refl, ap, ◌∙◌}
use mathlib.Core.Logic.{◌⊎◌, inl, inr, ⊎_elim}
use mathlib.Core.Bool.{Bool, true, false, ◌&&◌, ◌||◌}
use mathlib.Core.List.{List, [], ◌∷◌, ◌++◌}
use native.Mathlib.Omega.{arith}
use lib.ListN.{length, take, drop, get_or, replicate, length-append, length-replicate}
use lib.Seq.{take_at, length-take-le}
use lib.Dec.{leb, eqb}
use borrow.Author.Tests.{leb-true, le-leb, eqb-true, eq-eqb, ne_eqb}
use Rattle.keylaws.specs.Rules.{Word}
use Rattle.keylaws.specs.Key.{Permitted}
use Rattle.keylaws.specs.Slots.{slot_of, word_of, is_place, filled, is_slot}
use Rattle.keylaws.specs.Continuation.{from_start, is_from_start, is_continuation}
use Rattle.keylaws.proofs.Tests.{never, both, either}

-- ---- the slot of a word
pub length_slot : (w : Word) → length w ≤ 5 → length (slot_of w) ≡ 6
unfolding slot_of
length_slot w h = simp (length-append, length-replicate) (omega arith)

pub word_of_slot : (w : Word) → word_of (slot_of w) ≡ w
unfolding word_of slot_of
word_of_slot w = take_at w _ (length w) refl

-- ---- places, then zeros
record Filled (n l : ℕ) (bs : List ℕ) : Type 0 where
  fits : l ≤ length bs
  zeros : bs ≡ take l bs ++ replicate (length bs - l) 0
  places : Permitted n (take l bs)

permitted_longer : (n p : ℕ) (w : Word) → is_place n p ≡ true → Permitted n w → Permitted n (p ∷ w)
permitted_longer n p w e h zero l = let r = both (leb 1 p) (leb p n) e in (leb-true 1 p r.0, leb-true p n r.1)
permitted_longer n p w e h (suc i) l = h i (omega arith)

of_filled : (n l : ℕ) (bs : List ℕ) → filled n l bs ≡ true → Filled n l bs
unfolding filled
of_filled n zero [] h = record { fits = omega arith; zeros = refl; places = λ i l. absurd (omega arith) }
of_filled n (suc l) [] h = let e = eqb-true (suc l) 0 h in absurd (omega arith)
of_filled n zero (b ∷ bs) h =
    let e = both (eqb b 0) (filled n 0 bs) h in
    let r = of_filled n zero bs e.1 in
    let d : suc (length bs) - 0 ≡ suc (length bs - 0) = omega arith in
    record { fits = omega arith; zeros = rw (eqb-true b 0 e.0, d) (ap (λ (x : List ℕ). 0 ∷ x) r.zeros); places = λ i l. absurd (omega arith) }
of_filled n (suc l) (b ∷ bs) h =
    let e = both (is_place n b) (filled n l bs) h in
    let r = of_filled n l bs e.1 in
    let d : suc (length bs) - suc l ≡ length bs - l = omega arith in
    record { fits = omega (arith, r.fits); zeros = rw d (ap (λ (x : List ℕ). b ∷ x) r.zeros); places = permitted_longer n b (take l bs) e.0 r.places }

is_filled : (n : ℕ) (w : Word) (j : ℕ) → Permitted n w → filled n (length w) (w ++ replicate j 0) ≡ true
unfolding filled
is_filled n [] zero h = refl
is_filled n [] (suc j) h = is_filled n [] j (λ i l. absurd (omega arith))
is_filled n (p ∷ w) j h =
    let z = h 0 (omega arith) in
    rw (le-leb 1 p z.0, le-leb p n z.1) (is_filled n w j (λ i l. h (suc i) (omega arith)))

-- ---- slots within a question of n events and that length
module _ (n limit : ℕ) (h5 : limit ≤ 5) where
  pub is_slot_of_word : (w : Word) → length w ≤ limit → Permitted n w → is_slot n limit (slot_of w) ≡ true
  unfolding is_slot slot_of
  is_slot_of_word w h p = rw (eq-eqb _ 6 (length_slot w (omega arith)), le-leb (length w) limit h) (is_filled n w (5 - length w) p)

  pub slot_is : (x : List ℕ) → is_slot n limit x ≡ true → (x ≡ slot_of (word_of x)) × (length (word_of x) ≤ limit) × Permitted n (word_of x)
  unfolding is_slot slot_of word_of
  slot_is [] h = absurd (never false h refl)
  slot_is (l ∷ bs) h =
      let a = both (eqb (suc (length bs)) 6) (leb l limit && filled n l bs) h in
      let b = both (leb l limit) (filled n l bs) a.1 in
      let six : suc (length bs) ≡ 6 = eqb-true _ 6 a.0 in
      let short : l ≤ limit = leb-true l limit b.0 in
      let r = of_filled n l bs b.1 in
      let e : length (take l bs) ≡ l = length-take-le l bs r.fits in
      let d : length bs - l ≡ 5 - l = omega arith in
      let z : bs ≡ take l bs ++ replicate (5 - l) 0 = r.zeros ∙ (rw d refl) in
      (rw e (ap (λ (t : List ℕ). l ∷ t) z), omega arith, r.places)

  -- no slot begins as the one from the start does
  pub slot_not_start : (x : List ℕ) → is_slot n limit x ≡ true → eqb (get_or x 0 0) 255 ≡ false
  unfolding is_slot
  slot_not_start x h =
      let a = both (eqb (length x) 6) (leb (get_or x 0 0) limit && filled n (get_or x 0 0) (drop 1 x)) h in
      let b = both (leb (get_or x 0 0) limit) (filled n (get_or x 0 0) (drop 1 x)) a.1 in
      let short : get_or x 0 0 ≤ limit = leb-true _ limit b.0 in
      ne_eqb (get_or x 0 0) 255 (omega arith)

-- ---- continuations
from_start_is : (x : List ℕ) → is_from_start x ≡ true → x ≡ from_start
unfolding is_from_start from_start
from_start_is [] h = absurd (never false h refl)
from_start_is (l ∷ bs) h =
    let a = both (eqb (suc (length bs)) 6) (eqb l 255 && filled 0 0 bs) h in
    let b = both (eqb l 255) (filled 0 0 bs) a.1 in
    let six : length bs ≡ 5 = omega (arith, eqb-true (suc (length bs)) 6 a.0) in
    let z : bs ≡ replicate (length bs - 0) 0 = (of_filled 0 0 bs b.1).zeros in
    rw (z, six, eqb-true l 255 b.0) refl

pub continuation_is : (n limit : ℕ) (x : List ℕ) → is_continuation n limit x ≡ true → (x ≡ from_start) ⊎ (is_slot n limit x ≡ true)
unfolding is_continuation
continuation_is n limit x h = ⊎_elim (λ e. inl (from_start_is x e)) (λ e. inr e) (either (is_from_start x) (is_slot n limit x) h)

pub start_continues : (n limit : ℕ) → is_continuation n limit from_start ≡ true
unfolding is_continuation is_from_start from_start filled
start_continues n limit = refl

pub slot_continues : (n limit : ℕ) (x : List ℕ) → is_slot n limit x ≡ true → is_continuation n limit x ≡ true
unfolding is_continuation
slot_continues n limit x h = go (is_from_start x)
  where
    go : (b : Bool) → b || is_slot n limit x ≡ true
    go true = refl
    go false = h
