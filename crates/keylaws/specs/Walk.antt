-- Nothing here has to be believed: how an engine walks straight to where it continues. That it meets just the answers after the continuation is proved.
use Rattle.std.specs.Prelude.{ℕ, zero, suc, ◌+◌, ◌-◌, Bool, false, cond, ◌&&◌, List, [], ◌++◌, drop, get_or, ltb}
use Rattle.keylaws.specs.Rules.{Rules, Word}
use Rattle.keylaws.specs.Key.{empty_if, through}

-- the empty answer, unless the walk is still on its way to the continuation
unfoldable pub empty_off : Bool → Bool → List Word
empty_off on holds = cond on [] (empty_if holds)

-- m places from p on; on: the first of them lies on the way
unfoldable pub tries : (R : Rules) → (Bool → R.Situation → List Word) → R.Situation → Bool → ℕ → ℕ → List Word
tries R from s on p zero = []
tries R from s on p (suc m) = through R (from on) s p ++ tries R from s false (p + 1) m

-- where the continuation goes on with the place q, or ends (0): whether the first place to try lies on the way, and which it is
unfoldable pub aims : Bool → ℕ → Bool
aims on q = on && ltb 0 q

unfoldable pub starts : Bool → ℕ → ℕ
starts on q = cond (aims on q) q 1

-- the answers from s; on: only those after the places c
unfoldable pub walk : (R : Rules) → ℕ → Word → Bool → R.Situation → List Word
walk R zero c on s = empty_off on (R.holds s)
walk R (suc left) c on s =
    empty_off on (R.holds s) ++ tries R (walk R left (drop 1 c)) s (aims on (get_or c 0 0)) (starts on (get_or c 0 0)) (R.events + 1 - starts on (get_or c 0 0))
