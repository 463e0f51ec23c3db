-- The four bits of the count, read and written. Assumes nothing.
use Prim.Native.Nat.{ℕ, zero, suc, ◌+◌, ◌*◌, ◌/◌, ◌%◌, ◌^◌, ◌<◌}
use mathlib.Core.Bool.{Bool, true, false}
use Rattle.std.specs.Prelude.{if◌then◌else◌}
use mathlib.Core.Path.{◌≡◌, refl, sym, ap, fun_ext, ◌∙◌}
use native.Mathlib.Nat.{mod-lt}
use native.Mathlib.Decide.{dec_lt}
use borrow.Author.Tests.{lt-ltb, le-ltb}
use native.Mathlib.Omega.{arith}
use lib.Dec.{eqb, ltb}
use lib.Pow.{pow_pos, shr-shr, high, low}
use Rattle.words.specs.Words.{flag}
use Rattle.sections.proofs.SetsOfSets.{low_bit}
use Rattle.rulebook.specs.Situation.{with_track, with_this_watch}
use Rattle.situation.specs.Packed.{Flags, flags_of, count_from, with_flags, unpacked}
use Rattle.situation.specs.declared.Situation.{Situation as Packed}
use Rattle.situation.proofs.FlagLaws.{at_flags}

bit_flag : (n : ℕ) → n < 2 → flag (eqb n 1) ≡ n
bit_flag zero h = refl
bit_flag (suc zero) h = refl
bit_flag (suc (suc n)) h = absurd (omega arith)

-- four bits, one after the other
two_bits : (m : ℕ) → m % 2 + 2 * (m / 2 % 2) ≡ m % 4
two_bits m = omega arith

three_bits : (m : ℕ) → m % 2 + 2 * (m / 2 % 4) ≡ m % 8
three_bits m = omega arith

four_bits : (m : ℕ) → m % 2 + 2 * (m / 2 % 8) ≡ m % 16
four_bits m = omega arith

-- what is left of a word from the j-th bit on
module _ (w j m : ℕ) (e : w / 2 ^ j ≡ m) where
  first_bit : flag (flags_of w j) ≡ m % 2
  first_bit = bit_flag (w / 2 ^ j % 2) (mod-lt (w / 2 ^ j) (pow_pos 1)) ∙ ap (λ (n : ℕ). n % 2) e

  later_bit : (i : ℕ) → flag (flags_of w (j + i)) ≡ m / 2 ^ i % 2
  later_bit i = bit_flag (w / 2 ^ (j + i) % 2) (mod-lt (w / 2 ^ (j + i)) (pow_pos 1)) ∙ ap (λ (n : ℕ). n % 2) (sym (shr-shr w j i) ∙ ap (λ (n : ℕ). n / 2 ^ i) e)

  pub count_there : count_from j (flags_of w) ≡ m % 16
  count_there =
      let quarter : m / 2 ^ 2 ≡ m / 2 / 2 = sym (shr-shr m 1 1) in
      let eighth : m / 2 ^ 3 ≡ m / 2 / 2 / 2 = sym (shr-shr m 2 1) ∙ ap (λ (n : ℕ). n / 2) quarter in
      rw (first_bit, later_bit 1, later_bit 2 ∙ ap (λ (n : ℕ). n % 2) quarter, later_bit 3 ∙ ap (λ (n : ℕ). n % 2) eighth)
      (ap (λ (n : ℕ). m % 2 + 2 * (m / 2 % 2 + 2 * n)) (two_bits (m / 2 / 2)) ∙ ap (λ (n : ℕ). m % 2 + 2 * n) (three_bits (m / 2)) ∙ four_bits m)

pub count_is : (w : ℕ) → count_from 34 (flags_of w) ≡ w / 2 ^ 34 % 16
count_is w = count_there w 34 (w / 2 ^ 34) refl

-- the bits of a number by itself
pub bits_are : (n : ℕ) → count_from 0 (flags_of n) ≡ n % 16
bits_are n = count_there n 0 n (omega arith)

at_most_1 : (v : Bool) → flag v < 2
at_most_1 true = omega arith
at_most_1 false = omega arith

pub count_small : (j : ℕ) (f : Flags) → count_from j f < 16
count_small j f = omega (arith, at_most_1 (f j), at_most_1 (f (j + 1)), at_most_1 (f (j + 2)), at_most_1 (f (j + 3)))

-- ---- the same number has the same bits
lowest_same : (a b : Bool) (p q : ℕ) → flag a + 2 * p ≡ flag b + 2 * q → (a ≡ b) × (p ≡ q)
lowest_same true true p q e = (refl, omega (arith, e))
lowest_same true false p q e = absurd (omega (arith, e))
lowest_same false true p q e = absurd (omega (arith, e))
lowest_same false false p q e = (refl, omega (arith, e))

last_same : (a b : Bool) → flag a ≡ flag b → a ≡ b
last_same true true e = refl
last_same true false e = absurd (omega (arith, e))
last_same false true e = absurd (omega (arith, e))
last_same false false e = refl

pub bits_same : (j : ℕ) (f g : Flags) → count_from j f ≡ count_from j g → (f j ≡ g j) × ((f (j + 1) ≡ g (j + 1)) × ((f (j + 2) ≡ g (j + 2)) × (f (j + 3) ≡ g (j + 3))))
bits_same j f g e =
    let a = lowest_same (f j) (g j) _ _ e in
    let b = lowest_same (f (j + 1)) (g (j + 1)) _ _ a.1 in
    let c = lowest_same (f (j + 2)) (g (j + 2)) _ _ b.1 in
    (a.0, (b.0, (c.0, last_same (f (j + 3)) (g (j + 3)) c.1)))

-- ---- a word with another count: what stands below the count is the same, and the count is the one that is written
as_below : (w r j : ℕ) → j < 34 → r % 2 ^ 34 ≡ w % 2 ^ 34 → flags_of r j ≡ flags_of w j
as_below w r j h e = ap (λ (n : ℕ). eqb n 1) (sym (low_bit r 34 j h) ∙ ap (λ (n : ℕ). n / 2 ^ j % 2) e ∙ low_bit w 34 j h)

module _ (x : Packed) (n : ℕ) (small : n < 16) where
  abbrev above : ℕ
  above = x.flags / 2 ^ 34 / 16 * 16 + n

  abbrev word : ℕ
  word = above * 2 ^ 34 + x.flags % 2 ^ 34

  abbrev parted : Flags
  parted j = if ltb j 34 then flags_of x.flags j else flags_of word j

  below_count : x.flags % 2 ^ 34 < 2 ^ 34
  below_count = mod-lt x.flags (pow_pos 34)

  is_parted : flags_of word ≡ parted
  is_parted = fun_ext (λ j. go j (dec_lt j 34))
    where
      go : (j : ℕ) → Dec (j < 34) → flags_of word j ≡ parted j
      go j (yes h) = rw (lt-ltb j 34 h) (as_below x.flags word j h (low above 34 below_count))
      go j (no h) = rw (le-ltb j 34 (omega arith))

  pub counted : unpacked (at_flags x word) ≡ with_track (with_this_watch (record { mark = (unpacked x).traffic.track.watch.mark; count = n }) (unpacked x).traffic.track) (unpacked x)
  counted =
      ap (λ (f : Flags). with_flags f x) is_parted
      ∙ ap (λ (c : ℕ). with_track (with_this_watch (record { mark = (unpacked x).traffic.track.watch.mark; count = c }) (unpacked x).traffic.track) (unpacked x))
      (count_is word ∙ ap (λ (m : ℕ). m % 16) (high above 34 below_count) ∙ omega arith)
