-- Words that every rule uses. `and` and `or` join tests from left to right.
use Rattle.std.specs.Prelude.{ℕ, Bool, true, false, not, if◌then◌else◌}

infixl 40 ◌or◌
infixl 50 ◌and◌
infix 35 ◌implies◌
abbrev pub ◌or◌ : Bool → Bool → Bool
true or b = true
false or b = b

abbrev pub ◌and◌ : Bool → Bool → Bool
true and b = b
false and b = false

abbrev pub ◌implies◌ : Bool → Bool → Bool
a implies b = not a or b

-- 1 where it holds, else 0
abbrev pub flag : Bool → ℕ
flag v = if v then 1 else 0
