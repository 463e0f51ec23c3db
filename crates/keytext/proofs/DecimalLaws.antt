-- A number in decimal: one digit, or that of the tenth part and one more; no longer than the power of ten says. From the definition, whose steps are enough.
use Prim.Native.Nat.{ℕ, zero, suc, ◌+◌, ◌-◌, ◌/◌, ◌%◌, ◌^◌, ◌≤◌, ◌<◌}
use mathlib.Core.Path.{◌≡◌, refl}
use mathlib.Core.Bool.{Bool, true, false, cond}
use mathlib.Core.List.{List, [], ◌∷◌, ◌++◌}
use native.Mathlib.Omega.{arith}
use lib.ListN.{length, length-append}
use lib.Dec.{ltb}
use borrow.Author.Tests.{ltb-true, ltb-false, lt-ltb, le-ltb}
use Rattle.keytext.specs.Decimal.{digit, digits_in, decimal}

either_way : (b : Bool) (x y z : List ℕ) → (b ≡ false → y ≡ z) → cond b x y ≡ cond b x z
either_way true x y z e = refl
either_way false x y z e = e refl

same_digits : (j k n : ℕ) → n ≤ j → n ≤ k → digits_in j n ≡ digits_in k n
unfolding digits_in
same_digits zero zero n hj hk = refl
same_digits zero (suc k) n hj hk = rw (lt-ltb n 10 (omega arith))
same_digits (suc j) zero n hj hk = rw (lt-ltb n 10 (omega arith))
same_digits (suc j) (suc k) n hj hk =
    either_way (ltb n 10) _ _ _ (λ e. let h = ltb-false n 10 e in rw (same_digits j k (n / 10) (omega arith) (omega arith)))

pub decimal_one : (n : ℕ) → n < 10 → decimal n ≡ digit n ∷ []
unfolding decimal digits_in
decimal_one zero h = refl
decimal_one (suc m) h = rw (lt-ltb (suc m) 10 h)

pub decimal_more : (n : ℕ) → 10 ≤ n → decimal n ≡ decimal (n / 10) ++ (digit (n % 10) ∷ [])
unfolding decimal digits_in
decimal_more zero h = absurd (omega arith)
decimal_more (suc m) h = rw (le-ltb (suc m) 10 h, same_digits m (suc m / 10) (suc m / 10) (omega arith) (omega arith))

pub decimal_two : (n : ℕ) → 10 ≤ n → n < 20 → decimal n ≡ digit 1 ∷ digit (n - 10) ∷ []
decimal_two n h l =
    let first : n / 10 ≡ 1 = omega arith in
    let second : n % 10 ≡ n - 10 = omega arith in
    rw (decimal_more n h, first, second, decimal_one 1 (omega arith))

pub length_one : (n : ℕ) → n < 10 → length (decimal n) ≡ 1
length_one n h = rw (decimal_one n h)

pub length_more : (n : ℕ) → 10 ≤ n → length (decimal n) ≡ length (decimal (n / 10)) + 1
length_more n h = rw (decimal_more n h, length-append)

pub length_two : (n : ℕ) → 10 ≤ n → n < 20 → length (decimal n) ≡ 2
length_two n h l = rw (decimal_two n h l)

one_more : (n k : ℕ) (b : Bool) → ltb n 10 ≡ b → (10 ≤ n → length (decimal (n / 10)) ≤ k) → length (decimal n) ≤ suc k
one_more n k true e f = omega (arith, length_one n (ltb-true n 10 e))
one_more n k false e f = let h = ltb-false n 10 e in omega (arith, length_more n h, f h)

pub decimal_short : (k n : ℕ) → n < 10 ^ suc k → length (decimal n) ≤ suc k
decimal_short zero n h = one_more n 0 (ltb n 10) refl (λ l. absurd (omega arith))
decimal_short (suc k) n h = one_more n (suc k) (ltb n 10) refl (λ l. decimal_short k (n / 10) (omega arith))
