-- Where a key call continues, and what is left of the key from there.
use Rattle.std.specs.Prelude.{ℕ, Bool, true, cond, ◌&&◌, ◌||◌, List, [], ◌∷◌, length, drop, get_or, eqb}
use Rattle.keylaws.specs.Rules.{Rules, Word}
use Rattle.keylaws.specs.Key.{answers}
use Rattle.keylaws.specs.Order.{before}
use Rattle.keylaws.specs.Slots.{word_of, filled, is_slot}

-- "255 and five zeros: from the start"
unfoldable pub from_start : List ℕ
from_start = 255 ∷ 0 ∷ 0 ∷ 0 ∷ 0 ∷ 0 ∷ []

unfoldable pub is_from_start : List ℕ → Bool
is_from_start x = eqb (length x) 6 && (eqb (get_or x 0 0) 255 && filled 0 0 (drop 1 x))

-- "a slot, an answer or not, with length and places within the question; or 255 and five zeros"
unfoldable pub is_continuation : ℕ → ℕ → List ℕ → Bool
is_continuation n limit x = is_from_start x || is_slot n limit x

-- ""after" a slot that is no answer is read in this order too": whether w comes after x
unfoldable pub comes_after : List ℕ → Word → Bool
comes_after x w = cond (eqb (get_or x 0 0) 255) true (before (word_of x) w)

-- those of a list that pass a test
unfoldable pub keep : (Word → Bool) → List Word → List Word
keep test [] = []
keep test (w ∷ ws) = cond (test w) (w ∷ keep test ws) (keep test ws)

-- the answers that come after x
unfoldable pub answers_after : (R : Rules) → ℕ → R.Situation → List ℕ → List Word
answers_after R limit start x = keep (comes_after x) (answers R limit start)
