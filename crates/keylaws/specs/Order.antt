-- The order of a key.
use Rattle.std.specs.Prelude.{Bool, true, false, cond, [], ◌∷◌, ltb, eqb}
use Rattle.keylaws.specs.Rules.{Word}

-- "slots are ordered by their places from the left, and a sequence stands before its extensions"
unfoldable pub before : Word → Word → Bool
before [] [] = false
before [] (q ∷ w) = true
before (p ∷ v) [] = false
before (p ∷ v) (q ∷ w) = cond (ltb p q) true (cond (eqb p q) (before v w) false)
