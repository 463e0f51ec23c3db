-- A slot just written, with one place more where it stands: the room as if the longer slot had been written. From the definitions and the laws of lists.
use Rattle.std.proofs.Common.{◌≡◌, ◌≤◌, ◌<◌, ◌+◌, ◌-◌, ◌*◌, ℕ, List, [], ◌∷◌, ◌++◌, length, Bool, true, false, take, drop, refl, sym, ap, ◌∙◌, arith}
use Rattle.std.proofs.lemmas.List.{take_rest}
use Rattle.std.proofs.lemmas.Bool.{false≢true}
use lib.Dec.{leb}
use lib.ListN.{set, length-set, length-take, length-drop, drop_of_length-le}
use lib.Seq.{set-append_left, take_at, drop_at}
use mathlib.Core.List.{append-nil}
use borrow.Author.Tests.{leb-true, leb-false, le-leb}
use borrow.Rule.Slice.PartMut.{put_mid, mid_of}
use Rattle.keylaws.specs.Parts.{Part, handed}
use Rattle.keylaws.specs.Sheet.{grow, laid, emit, put}
use Rattle.keylaws.proofs.SheetSteps.{put_none}

-- a slot at the front of a part
grown_front : (x l : List ℕ) (d p : ℕ) → length x ≡ 6 → d < 5 → grow (x ++ l) d p ≡ grow x d p ++ l
grown_front x l d p six h =
    ap (λ (m : List ℕ). set m (d + 1) p) (set-append_left x l 0 (d + 1) (omega (arith, six)))
    ∙ set-append_left (set x 0 (d + 1)) l (d + 1) p (omega (arith, six, length-set x 0 (d + 1)))

-- the slot x as the n-th of a room that has its place
record Stands (l : List ℕ) (n : ℕ) (x r : List ℕ) (k : ℕ) : Type 0 where
  pub fits : 6 * n + 6 ≤ length l
  pub room : r ≡ laid l n x
  pub count : k ≡ n + 1

put_one : (l : List ℕ) (n : ℕ) (x : List ℕ) → 6 * n + 6 ≤ length l → put (handed l n false) (x ∷ []) ≡ handed (laid l n x) (n + 1) false
unfolding put emit
put_one l n x h = rw (le-leb _ _ h) refl

stands : (l r x : List ℕ) (n k : ℕ) (m : Bool) → m ≡ false → handed r k m ≡ put (handed l n false) (x ∷ []) → Stands l n x r k
stands l r x n k m left e = go (leb (6 * n + 6) (length l)) refl
  where
    go : (b : Bool) → leb (6 * n + 6) (length l) ≡ b → Stands l n x r k
    go true f =
        let h = leb-true _ _ f in
        let e2 = e ∙ put_one l n x h in
        record { fits = h; room = ap (λ (p : Part). p.room) e2; count = ap (λ (p : Part). p.count) e2 }
    go false f = let e2 : handed r k m ≡ handed l n true = e ∙ sym (put_none l n x (leb-false _ _ f)) in absurd (false≢true (sym left ∙ ap (λ (p : Part). p.more) e2))

-- where it stands
place_of : (l x : List ℕ) (n : ℕ) → length x ≡ 6 → 6 * n + 6 ≤ length l → mid_of (6 * n) (length (laid l n x) - 6 * n) (laid l n x) ≡ x ++ drop (6 * n + 6) l
unfolding laid
place_of l x n six h = rw (take_rest (laid l n x) (6 * n)) (drop_at (take (6 * n) l) (x ++ drop (6 * n + 6) l) (6 * n) (rw length-take (omega arith)))

-- and what the room is once another stands there
replaced : (l x y : List ℕ) (n : ℕ) → length x ≡ 6 → 6 * n + 6 ≤ length l → put_mid (6 * n) (length (laid l n x) - 6 * n) (laid l n x) (y ++ drop (6 * n + 6) l) ≡ laid l n y
unfolding laid
replaced l x y n six h =
    let whole = laid l n x in
    let front : length (take (6 * n) l) ≡ 6 * n = rw length-take (omega arith) in
    let none : drop (length whole - 6 * n) (drop (6 * n) whole) ≡ [] = drop_of_length-le (drop (6 * n) whole) {i = length whole - 6 * n} (omega (arith, length-drop (6 * n) whole)) in
    rw (none, append-nil, take_at (take (6 * n) l) (x ++ drop (6 * n + 6) l) (6 * n) front)

pub put_then_grown : (l r x part : List ℕ) (n k d p : ℕ) (m : Bool) → m ≡ false → handed r k m ≡ put (handed l n false) (x ∷ []) → length x ≡ 6 → d < 5
    → part ≡ grow (mid_of (6 * n) (length r - 6 * n) r) d p → handed (put_mid (6 * n) (length r - 6 * n) r part) k m ≡ put (handed l n false) (grow x d p ∷ [])
put_then_grown l r x part n k d p m left e six h g =
    let s = stands l r x n k m left e in
    rw (g, s.room, s.count, left, place_of l x n six s.fits, grown_front x (drop (6 * n + 6) l) d p six h, replaced l x (grow x d p) n six s.fits)
    (sym (put_one l n (grow x d p) s.fits))

pub place_fits : (l r x : List ℕ) (n k : ℕ) (m : Bool) → m ≡ false → handed r k m ≡ put (handed l n false) (x ∷ []) → length r ≡ length l → 6 ≤ length (mid_of (6 * n) (length r - 6 * n) r)
place_fits l r x n k m left e long =
    let s = stands l r x n k m left e in
    rw (take_rest r (6 * n), length-drop) (omega (arith, s.fits))

pub put_no_other : (l r x y : List ℕ) (n k : ℕ) (m : Bool) → m ≡ true → handed r k m ≡ put (handed l n false) (x ∷ []) → handed r k m ≡ put (handed l n false) (y ∷ [])
put_no_other l r x y n k m full e = go (leb (6 * n + 6) (length l)) refl
  where
    go : (b : Bool) → leb (6 * n + 6) (length l) ≡ b → handed r k m ≡ put (handed l n false) (y ∷ [])
    go true f = let e2 : handed r k m ≡ handed (laid l n x) (n + 1) false = e ∙ put_one l n x (leb-true _ _ f) in absurd (false≢true (sym (ap (λ (p : Part). p.more) e2) ∙ full))
    go false f = e ∙ sym (put_none l n x (leb-false _ _ f)) ∙ put_none l n y (leb-false _ _ f)
