-- The codes of a situation, one by one: a code says what it was made of, and is made again of what it says. Assumes nothing.
use Prim.Native.Nat.{ℕ, zero, suc, ◌%◌}
use mathlib.Core.Path.{◌≡◌, refl}
use mathlib.Core.Bool.{Bool, true, false, not}
use native.Mathlib.Omega.{arith}
use borrow.Author.Tests.{leb-true}
use lib.Dec.{eqb, leb}
use Rattle.words.specs.Words.{◌and◌, flag}
use Rattle.block.specs.Codes.{code}
use Rattle.records.specs.Situation.{bits, bit_of_A, bit_of_B, field_of, sections_of}

-- ---- in range
pub flag_in_range : (v : Bool) → leb (flag v) 1 ≡ true
flag_in_range true = refl
flag_in_range false = refl

pub code_in_range : (a b : Bool) → leb (code a b) 2 ≡ true
code_in_range true b = refl
code_in_range false true = refl
code_in_range false false = refl

pub bits_in_range : (a b : Bool) → leb (bits a b) 3 ≡ true
bits_in_range true true = refl
bits_in_range true false = refl
bits_in_range false true = refl
bits_in_range false false = refl

-- ---- made, then read
pub flag_back : (v : Bool) → eqb (flag v) 1 ≡ v
flag_back true = refl
flag_back false = refl

pub code_first : (a b : Bool) → eqb (code a b) 1 ≡ a
code_first true b = refl
code_first false true = refl
code_first false false = refl

pub code_second : (a b : Bool) → not (a and b) ≡ true → eqb (code a b) 2 ≡ b
code_second true true h = h
code_second true false h = refl
code_second false true h = refl
code_second false false h = refl

pub bits_A : (a b : Bool) → bit_of_A (bits a b) ≡ a
bits_A true true = refl
bits_A true false = refl
bits_A false true = refl
bits_A false false = refl

pub bits_B : (a b : Bool) → bit_of_B (bits a b) ≡ b
bits_B true true = refl
bits_B true false = refl
bits_B false true = refl
bits_B false false = refl

pub sections_back : (m : ℕ) → m % 2 ≡ 0 → sections_of (field_of m) ≡ m
sections_back m h = omega arith

-- ---- read, then made
pub flag_again : (b : ℕ) → leb b 1 ≡ true → flag (eqb b 1) ≡ b
flag_again zero h = refl
flag_again (suc zero) h = refl
flag_again (suc (suc n)) h = absurd (omega (arith, leb-true (suc (suc n)) 1 h))

pub code_again : (b : ℕ) → leb b 2 ≡ true → code (eqb b 1) (eqb b 2) ≡ b
code_again zero h = refl
code_again (suc zero) h = refl
code_again (suc (suc zero)) h = refl
code_again (suc (suc (suc n))) h = absurd (omega (arith, leb-true (suc (suc (suc n))) 2 h))

pub bits_again : (b : ℕ) → leb b 3 ≡ true → bits (bit_of_A b) (bit_of_B b) ≡ b
bits_again zero h = refl
bits_again (suc zero) h = refl
bits_again (suc (suc zero)) h = refl
bits_again (suc (suc (suc zero))) h = refl
bits_again (suc (suc (suc (suc n)))) h = absurd (omega (arith, leb-true (suc (suc (suc (suc n)))) 3 h))

pub field_again : (f : ℕ) → field_of (sections_of f) ≡ f
field_again f = omega arith
