-- Nothing here has to be believed. The tests of slots and continuations, byte by byte, as code makes them. From the definitions, for the proofs of an engine.
use Prim.Native.Nat.{ℕ, zero, suc, ◌+◌, ◌-◌, ◌≤◌, ◌<◌}
use mathlib.Core.Path.{◌≡◌, refl}
use mathlib.Core.Bool.{Bool, true, false, cond, ◌&&◌, ◌||◌, or-false}
use mathlib.Core.List.{List, ◌∷◌}
use native.Mathlib.Omega.{arith}
use native.Mathlib.Numerals.{add-one}
use lib.ListN.{length, drop, get_or, drop_of_length-le}
use lib.Seq.{drop-cons}
use lib.Dec.{leb, eqb}
use borrow.Author.Tests.{eqb-true, eq-eqb, ne_eqb, lt-leb}
use Rattle.keylaws.specs.Slots.{is_place, filled, is_slot}
use Rattle.keylaws.specs.Continuation.{is_from_start, is_continuation}

-- the byte where l places are still to come
abbrev pub byte_ok : ℕ → ℕ → ℕ → Bool
byte_ok n l b = cond (eqb l 0) (eqb b 0) (is_place n b)

filled_cons : (n l b : ℕ) (bs : List ℕ) → filled n l (b ∷ bs) ≡ byte_ok n l b && filled n (l - 1) bs
unfolding filled
filled_cons n zero b bs = refl
filled_cons n (suc l) b bs = let e : suc l - 1 ≡ l = omega arith in let d : eqb (suc l) 0 ≡ false = ne_eqb (suc l) 0 (omega arith) in rw (e, d) refl

pub filled_end : (n l : ℕ) (x : List ℕ) (i : ℕ) → length x ≤ i → filled n l (drop i x) ≡ eqb l 0
unfolding filled
filled_end n l x i h = rw (drop_of_length-le x h) refl

pub filled_step : (n l : ℕ) (x : List ℕ) (i : ℕ) → i < length x → filled n l (drop i x) ≡ byte_ok n l (get_or x i 0) && filled n (l - 1) (drop (i + 1) x)
filled_step n l x i h = rw (drop-cons x i 0 h, add-one, filled_cons) refl

-- six bytes, by the first of them
pub continuation_test : (n limit : ℕ) (x : List ℕ) → limit ≤ 5 → length x ≡ 6
    → is_continuation n limit x ≡ cond (eqb (get_or x 0 0) 255) (filled 0 0 (drop 1 x)) (leb (get_or x 0 0) limit && filled n (get_or x 0 0) (drop 1 x))
unfolding is_continuation is_from_start is_slot
continuation_test n limit x h5 h = rw (eq-eqb _ 6 h) (go (eqb (get_or x 0 0) 255) refl)
  where
    rest : Bool
    rest = leb (get_or x 0 0) limit && filled n (get_or x 0 0) (drop 1 x)

    go : (b : Bool) → eqb (get_or x 0 0) 255 ≡ b → (b && filled 0 0 (drop 1 x)) || rest ≡ cond b (filled 0 0 (drop 1 x)) rest
    go true e =
        let h : limit < get_or x 0 0 = omega (arith, eqb-true (get_or x 0 0) 255 e) in
        rw (lt-leb _ _ h) (or-false (filled 0 0 (drop 1 x)))
    go false e = refl
