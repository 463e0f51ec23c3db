-- Numbers in decimal.
use Rattle.std.specs.Prelude.{ℕ, zero, suc, ◌+◌, ◌/◌, ◌%◌, cond, List, [], ◌∷◌, ◌++◌, ltb}

-- the digit of a number below ten: '0' is 48
abbrev pub digit : ℕ → ℕ
digit d = 48 + d

-- a number's digits, the first of them not 0 unless it is the only one; the steps that may be taken are counted down
unfoldable pub digits_in : ℕ → ℕ → List ℕ
digits_in zero n = digit n ∷ []
digits_in (suc k) n = cond (ltb n 10) (digit n ∷ []) (digits_in k (n / 10) ++ (digit (n % 10) ∷ []))

-- the number in decimal: n steps are enough, since each divides by ten
unfoldable pub decimal : ℕ → List ℕ
decimal n = digits_in n n
