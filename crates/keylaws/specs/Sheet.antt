-- Nothing here has to be believed: how an engine writes, slot by slot. That a part of the key comes of it is proved.
use Rattle.std.specs.Prelude.{ℕ, ◌+◌, ◌*◌, true, false, cond, List, [], ◌∷◌, ◌++◌, length, take, drop, set, leb}
use Rattle.keylaws.specs.Rules.{Word}
use Rattle.keylaws.specs.Parts.{Part, handed}

-- the slot of no place, a slot of d places with one more, and with all of a word's
abbrev pub blank : List ℕ
blank = 0 ∷ 0 ∷ 0 ∷ 0 ∷ 0 ∷ 0 ∷ []

abbrev pub grow : List ℕ → ℕ → ℕ → List ℕ
grow x d p = set (set x 0 (d + 1)) (d + 1) p

unfoldable pub grows : List ℕ → ℕ → Word → List ℕ
grows x d [] = x
grows x d (p ∷ w) = grows (grow x d p) (d + 1) w

-- the slot x at the n-th place of a room, from 0
unfoldable pub laid : List ℕ → ℕ → List ℕ → List ℕ
laid room n x = take (6 * n) room ++ (x ++ drop (6 * n + 6) room)

-- one slot more, or the news that it has no place; once that is known nothing changes
unfoldable pub emit : Part → List ℕ → Part
emit p x =
    cond p.more p
    (cond (leb (6 * p.count + 6) (length p.room)) (handed (laid p.room p.count x) (p.count + 1) false)
    (handed p.room p.count true))

unfoldable pub put : Part → List (List ℕ) → Part
put p [] = p
put p (x ∷ xs) = put (emit p x) xs
