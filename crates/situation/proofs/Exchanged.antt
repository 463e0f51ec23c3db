-- The word with its two lowest halves exchanged, bit by bit. Assumes nothing.
use Prim.Native.Nat.{ℕ, ◌+◌, ◌-◌, ◌*◌, ◌/◌, ◌%◌, ◌^◌, ◌<◌}
use mathlib.Core.Path.{◌≡◌, sym, ap, fun_ext, ◌∙◌}
use native.Mathlib.Nat.{mod-lt}
use native.Mathlib.Decide.{dec_lt}
use native.Mathlib.Omega.{arith}
use borrow.Author.Tests.{lt-ltb, le-ltb}
use lib.Dec.{eqb}
use lib.Pow.{pow_pos, shr-shr, high, low}
use Rattle.sections.specs.Sections.{◌belongs_to◌}
use Rattle.sections.proofs.SetsOfSets.{low_bit}
use Rattle.situation.specs.Packed.{flags_of, station_from, exchanged}

module _ (w : ℕ) where
  abbrev own : ℕ
  own = w % 2 ^ 16

  abbrev others : ℕ
  others = w / 2 ^ 16

  abbrev upper : ℕ
  upper = others / 2 ^ 16 * 2 ^ 16 + own

  abbrev word : ℕ
  word = upper * 2 ^ 16 + others % 2 ^ 16

  abbrev bit : ℕ → ℕ → ℕ
  bit j n = n / 2 ^ j % 2

  -- from 16 on, and from 32 on
  from_16 : (i : ℕ) → bit (16 + i) word ≡ bit i upper
  from_16 i = ap (λ (n : ℕ). n % 2) (sym (shr-shr word 16 i) ∙ ap (λ (n : ℕ). n / 2 ^ i) (high upper 16 (mod-lt others (pow_pos 16))))

  first : (j : ℕ) → j < 16 → bit j word ≡ bit (16 + j) w
  first j h =
      sym (low_bit word 16 j h) ∙ ap (λ (n : ℕ). n / 2 ^ j % 2) (low upper 16 (mod-lt others (pow_pos 16)))
      ∙ low_bit others 16 j h ∙ ap (λ (n : ℕ). n % 2) (shr-shr w 16 j)

  second : (i : ℕ) → i < 16 → bit (16 + i) word ≡ bit i w
  second i h =
      from_16 i ∙ sym (low_bit upper 16 i h) ∙ ap (λ (n : ℕ). n / 2 ^ i % 2) (low (others / 2 ^ 16) 16 (mod-lt w (pow_pos 16))) ∙ low_bit w 16 i h

  third : (i : ℕ) → bit (16 + (16 + i)) word ≡ bit (16 + (16 + i)) w
  third i =
      from_16 (16 + i)
      ∙ ap (λ (n : ℕ). n % 2)
      (sym (shr-shr upper 16 i) ∙ ap (λ (n : ℕ). n / 2 ^ i) (high (others / 2 ^ 16) 16 (mod-lt w (pow_pos 16)))
      ∙ shr-shr others 16 i ∙ shr-shr w 16 (16 + i))

  pub swapped : (j : ℕ) → (j belongs_to word) ≡ (exchanged j belongs_to w)
  swapped j = go (dec_lt j 16) (dec_lt j 32)
    where
      go : Dec (j < 16) → Dec (j < 32) → (j belongs_to word) ≡ (exchanged j belongs_to w)
      go (yes h) d = rw (lt-ltb j 16 h) (ap (λ (n : ℕ). eqb n 1) (first j h ∙ ap (λ (i : ℕ). bit i w) (omega arith)))
      go (no h) (yes l) =
          rw (le-ltb j 16 (omega arith), lt-ltb j 32 l)
          (ap (λ (n : ℕ). eqb n 1) (ap (λ (i : ℕ). bit i word) (omega arith) ∙ second (j - 16) (omega arith)))
      go (no h) (no l) =
          rw (le-ltb j 16 (omega arith), le-ltb j 32 (omega arith))
          (ap (λ (n : ℕ). eqb n 1) (ap (λ (i : ℕ). bit i word) (omega arith) ∙ third (j - 32) ∙ ap (λ (i : ℕ). bit i w) (omega arith)))

pub exchanged_flags : (w r : ℕ) → ((j : ℕ) → (j belongs_to r) ≡ (exchanged j belongs_to w)) → flags_of r ≡ (λ j. flags_of w (exchanged j))
exchanged_flags w r e = fun_ext e

-- the flags from 16 on, by themselves
pub others_flags : (w : ℕ) → station_from 0 (flags_of (w / 2 ^ 16)) ≡ station_from 16 (flags_of w)
others_flags w = ap (station_from 0) (fun_ext (λ j. ap (λ (n : ℕ). eqb (n % 2) 1) (shr-shr w 16 j)))
