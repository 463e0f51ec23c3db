-- The word of a slot, as the part of it that holds its places. From the definition and the laws of lists.
use Rattle.std.proofs.Common.{◌≡◌, ◌<◌, ℕ, List, Bool, true, false, length, take, drop, get_or, min, leb, arith, refl, length-drop, leb-true, leb-false}
use lib.Seq.{take_all}
use Rattle.keylaws.specs.Slots.{word_of}

-- each of them is a byte
abbrev pub Bytes : List ℕ → Type 0
Bytes x = (i : ℕ) → get_or x i 0 < 256

-- the places of a slot are those that its first byte counts, of at most five
pub least_places : (x : List ℕ) (n : ℕ) → length x ≡ 6 → n ≡ min (get_or x 0 0) 5 → take n (drop 1 x) ≡ word_of x
unfolding word_of
least_places x n six e = go (leb (get_or x 0 0) 5) refl
  where
    long : length (drop 1 x) ≡ 5
    long = omega (arith, six, length-drop 1 x)

    go : (b : Bool) → leb (get_or x 0 0) 5 ≡ b → take n (drop 1 x) ≡ take (get_or x 0 0) (drop 1 x)
    go true h = let counted : n ≡ get_or x 0 0 = omega (arith, e, leb-true (get_or x 0 0) 5 h) in rw counted
    go false h =
        let more = leb-false (get_or x 0 0) 5 h in
        rw (take_all n (drop 1 x) (omega (arith, long)), take_all (get_or x 0 0) (drop 1 x) (omega (arith, long)))
