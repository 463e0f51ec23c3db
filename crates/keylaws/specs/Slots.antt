-- Slots: words as bytes.
use Rattle.std.specs.Prelude.{ℕ, zero, suc, ◌-◌, Bool, ◌&&◌, length, take, drop, get_or, replicate, leb, eqb}
use mathlib.Core.List.{List, [], ◌∷◌, ◌++◌, map, flatten}
use Rattle.keylaws.specs.Rules.{Word}

-- "A slot is six bytes: length, then places 1..12 in EV, zero filled."
unfoldable pub slot_of : Word → List ℕ
slot_of w = length w ∷ (w ++ replicate (5 - length w) 0)

-- the slots of words, one after the other
unfoldable pub slots : List Word → List ℕ
slots ws = flatten (map slot_of ws)

-- the word of a slot
unfoldable pub word_of : List ℕ → Word
word_of x = take (get_or x 0 0) (drop 1 x)

-- one of n permitted events
abbrev pub is_place : ℕ → ℕ → Bool
is_place n p = leb 1 p && leb p n

-- l places, then zeros
unfoldable pub filled : ℕ → ℕ → List ℕ → Bool
filled n l [] = eqb l 0
filled n zero (b ∷ bs) = eqb b 0 && filled n zero bs
filled n (suc l) (b ∷ bs) = is_place n b && filled n l bs

-- a slot "with length and places within the question": at most `limit` of n events
unfoldable pub is_slot : ℕ → ℕ → List ℕ → Bool
is_slot n limit x = eqb (length x) 6 && (leb (get_or x 0 0) limit && filled n (get_or x 0 0) (drop 1 x))
