-- Nothing here has to be believed. The steps of writing slots into lent room: one more, none, one list after another. From the definitions, for the proofs of an engine.
use Prim.Native.Nat.{ℕ, ◌+◌, ◌-◌, ◌*◌, ◌≤◌, ◌<◌}
use mathlib.Core.Path.{◌≡◌, refl, sym}
use mathlib.Core.Bool.{Bool, true, false}
use mathlib.Core.List.{List, [], ◌∷◌, ◌++◌, append-nil}
use native.Mathlib.Omega.{arith}
use lib.ListN.{length, take, drop, length-drop, drop_of_length-le}
use lib.Seq.{drop-drop, take_all, take-length}
use borrow.Author.Tests.{le-leb, lt-leb}
use borrow.Rule.Slice.PartMut.{put_mid, mid_of}
use Rattle.keylaws.specs.Parts.{Part, handed}
use Rattle.keylaws.specs.Sheet.{laid, emit, put}

put_append : (xs ys : List (List ℕ)) (o : Part) → put o (xs ++ ys) ≡ put (put o xs) ys
unfolding put
put_append [] ys o = refl
put_append (x ∷ xs) ys o = put_append xs ys (emit o x)

emit_full : (l : List ℕ) (n : ℕ) (x : List ℕ) → emit (handed l n true) x ≡ handed l n true
unfolding emit
emit_full l n x = refl

pub put_full : (xs : List (List ℕ)) (l : List ℕ) (n : ℕ) → put (handed l n true) xs ≡ handed l n true
unfolding put
put_full [] l n = refl
put_full (x ∷ xs) l n = rw emit_full (put_full xs l n)

-- two lists put one after the other: the first left no room, or the second went on
pub put_stop : (l : List ℕ) (n : ℕ) (m : Bool) (o : Part) (xs ys : List (List ℕ)) → handed l n m ≡ put o xs → m ≡ true → handed l n m ≡ put o (xs ++ ys)
put_stop l n m o xs ys e h = rw (put_append, ← e, h) (sym (put_full ys l n))

pub put_on : (l : List ℕ) (n : ℕ) (m : Bool) (o b : Part) (xs ys : List (List ℕ)) → handed l n m ≡ put o xs → m ≡ false → b ≡ put (handed l n false) ys → b ≡ put o (xs ++ ys)
put_on l n m o b xs ys e h g = rw (put_append, ← e, h) g

-- a slot copied to the front of a part of the room
pub copied : (x l : List ℕ) → length x ≡ 6 → take (length x) x ++ drop (length x) l ≡ x ++ drop 6 l
copied x l h = rw (take-length, h)

-- the part of the room from a slot's place on, with the slot at its front, as the room that it is a part of
laid_part : (l : List ℕ) (n : ℕ) (x : List ℕ) → put_mid (6 * n) (length l - 6 * n) l (x ++ drop 6 (mid_of (6 * n) (length l - 6 * n) l)) ≡ laid l n x
unfolding laid
laid_part l n x =
    let h : length (drop (6 * n) l) ≤ length l - 6 * n = omega (arith, length-drop (6 * n) l) in
    rw (take_all _ _ h, drop_of_length-le _ h, drop-drop, append-nil)

pub put_fits : (l : List ℕ) (n : ℕ) (x y : List ℕ) → 6 * n + 6 ≤ length l → y ≡ x ++ drop 6 (mid_of (6 * n) (length l - 6 * n) l)
    → handed (put_mid (6 * n) (length l - 6 * n) l y) (n + 1) false ≡ put (handed l n false) (x ∷ [])
unfolding put emit
put_fits l n x y h e = rw (e, laid_part, le-leb _ _ h) refl

pub put_none : (l : List ℕ) (n : ℕ) (x : List ℕ) → length l < 6 * n + 6 → handed l n true ≡ put (handed l n false) (x ∷ [])
unfolding put emit
put_none l n x h = rw (lt-leb _ _ h) refl
