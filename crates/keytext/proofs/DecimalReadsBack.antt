-- A number in decimal, read back digit by digit, is the number: so no two numbers have one text. By induction on the steps of the definition.
use Prim.Native.Nat.{ℕ, zero, suc, ◌+◌, ◌-◌, ◌*◌, ◌/◌, ◌%◌, ◌≤◌}
use mathlib.Core.Path.{◌≡◌, refl}
use mathlib.Core.Bool.{Bool, true, false, cond}
use mathlib.Core.List.{List, [], ◌∷◌, ◌++◌}
use native.Mathlib.Omega.{arith}
use lib.Dec.{ltb}
use borrow.Author.Tests.{ltb-false}
use Rattle.keytext.specs.Decimal.{digit, digits_in, decimal}

-- the number that digits stand for, after those that stand for n
unfoldable pub read_on : ℕ → List ℕ → ℕ
read_on n [] = n
read_on n (d ∷ ds) = read_on (n * 10 + (d - 48)) ds

read_last : (n : ℕ) (ds : List ℕ) (d : ℕ) → read_on n (ds ++ (d ∷ [])) ≡ read_on n ds * 10 + (d - 48)
unfolding read_on
read_last n [] d = refl
read_last n (c ∷ ds) d = read_last (n * 10 + (c - 48)) ds d

digits_read_back : (k n : ℕ) → n ≤ k → read_on 0 (digits_in k n) ≡ n
unfolding digits_in read_on
digits_read_back zero n h = omega arith
digits_read_back (suc k) n h = go (ltb n 10) refl (λ l. digits_read_back k (n / 10) (omega arith))
  where
    go : (b : Bool) → ltb n 10 ≡ b → (10 ≤ n → read_on 0 (digits_in k (n / 10)) ≡ n / 10) → read_on 0 (cond b (digit n ∷ []) (digits_in k (n / 10) ++ (digit (n % 10) ∷ []))) ≡ n
    go true e tenth = omega arith
    go false e tenth = let more = ltb-false n 10 e in rw (read_last 0 (digits_in k (n / 10)) (digit (n % 10)), tenth more) (omega arith)

pub reads_back : (n : ℕ) → read_on 0 (decimal n) ≡ n
unfolding decimal
reads_back n = digits_read_back n n (omega arith)
