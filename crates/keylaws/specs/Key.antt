-- The key: the list of all answers. And what an answer is, said apart from the list.
use Rattle.std.specs.Prelude.{ℕ, zero, suc, ◌+◌, ◌≤◌, ◌<◌, ◌≡◌, Bool, true, cond, length, take, get_or}
use mathlib.Core.List.{List, [], ◌∷◌, ◌++◌, map, Memᴰ}
use Rattle.keylaws.specs.Rules.{Rules, Word, accepts}

infix 40 ◌among◌
-- the empty answer, if the readings hold
unfoldable pub empty_if : Bool → List Word
empty_if holds = cond holds ([] ∷ []) []

-- where the event at p is accepted: p, followed by each answer from the situation it leads to
unfoldable pub through : (R : Rules) → (R.Situation → List Word) → R.Situation → ℕ → List Word
through R from s p = cond (accepts R s p) (map (λ (w : Word). p ∷ w) (from (R.next s p))) []

-- for each of m places from p on, in turn
unfoldable pub in_turn : (ℕ → List Word) → ℕ → ℕ → List Word
in_turn at p zero = []
in_turn at p (suc m) = at p ++ in_turn at (p + 1) m

-- "The answers from a situation are the empty one if the readings hold, then, for each permitted event in turn that is accepted, the answers from the situation it leads to, while length remains."
unfoldable pub answers : (R : Rules) → ℕ → R.Situation → List Word
answers R zero s = empty_if (R.holds s)
answers R (suc left) s = empty_if (R.holds s) ++ in_turn (through R (answers R left) s) 1 R.events

-- where the events of a word lead, one after the other
unfoldable pub reached : (R : Rules) → R.Situation → Word → R.Situation
reached R s [] = s
reached R s (p ∷ w) = reached R (R.next s p) w

-- each place is that of one of n permitted events
abbrev pub Permitted : ℕ → Word → Type 0
Permitted n w = (i : ℕ) → i < length w → (1 ≤ get_or w i 0) × (get_or w i 0 ≤ n)

-- each event is accepted in its turn, that is where those before it have led
abbrev pub Accepted : (R : Rules) → R.Situation → Word → Type 0
Accepted R start w = (i : ℕ) → i < length w → R.refusal (reached R start (take i w)) (get_or w i 0) ≡ 0

-- an answer: up to the length, of permitted events, each accepted in its turn, and all readings hold at the end
pub record Answer (R : Rules) (limit : ℕ) (start : R.Situation) (w : Word) : Type 0 where
  pub short : length w ≤ limit
  pub permitted : Permitted R.events w
  pub accepted : Accepted R start w
  pub ends : R.holds (reached R start w) ≡ true

-- one of a list, as in `w among answers R limit start`
abbrev pub ◌among◌ : List ℕ → List (List ℕ) → Type 0
w among ws = Memᴰ w ws
