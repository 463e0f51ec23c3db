-- Of a station's first six flags, the values in which a code is the one asked are just those in which it is: a test that is computed at all
-- 64 of them.
use Prim.Native.Nat.{ℕ, zero, suc, ◌%◌, ◌<◌}
use mathlib.Core.Path.{◌≡◌, refl, sym, ap, ap₂, ◌∙◌}
use mathlib.Core.Bool.{Bool, true, false, not}
use native.Mathlib.Nat.{mod-lt}
use native.Mathlib.Decide.{dec_lt, ℕ_discrete}
use native.Mathlib.Omega.{arith}
use borrow.Author.Tests.{ne_eqb}
use lib.Dec.{T, eqb}
use lib.Bits.{and_mask}
use Rattle.words.specs.Words.{◌and◌}
use Rattle.sections.specs.Sections.{none, ◌belongs_to◌}
use Rattle.sections.proofs.SetLaws.{none_has}
use Rattle.sections.proofs.SetsOfSets.{in_both}
use Rattle.words.proofs.Tests.{and_at, and_true, holds_is}
use Rattle.block.specs.Codes.{code, orientation_code, annulment_code, route_code}
use Rattle.situation.specs.Packed.{flags_of, station_from}
use Rattle.situation.specs.CodeSets.{for_value, where_orientation, where_annulment, where_exit}

-- ---- a test at each number below n
abbrev all_below : ℕ → (ℕ → Bool) → Bool
all_below zero f = true
all_below (suc n) f = f n and all_below n f

below_at : (n : ℕ) (f : ℕ → Bool) → T (all_below n f) → (k : ℕ) → k < n → T (f k)
below_at zero f t k h = absurd (omega arith)
below_at (suc n) f t k h = go (ℕ_discrete k n) (and_at (f n) (all_below n f) t) (λ u d. below_at n f u k (omega arith))
  where
    go : Dec (k ≡ n) → T (f n) × T (all_below n f) → (T (all_below n f) → (k ≡ n → ⊥) → T (f k)) → T (f k)
    go (yes e) halves rest = rw e halves.0
    go (no d) halves rest = rest halves.1 d

abbrev alike : Bool → Bool → Bool
alike true b = b
alike false b = not b

alike_is : (a b : Bool) → T (alike a b) → a ≡ b
alike_is true true t = refl
alike_is true false t = absurd t
alike_is false true t = absurd t
alike_is false false t = refl

-- ---- the six flags of a station's word
six_below : (m : ℕ) → m % 64 < 64
six_below m = mod-lt m (omega arith)

six_has : (k m : ℕ) → k < 6 → (k belongs_to (m % 64)) ≡ (k belongs_to m)
six_has k m h =
    ap (λ (n : ℕ). k belongs_to n) (sym (and_mask m 6))
    ∙ in_both k m 63
    ∙ ap (λ (b : Bool). (k belongs_to m) and b) (holds_is (k belongs_to 63) (below_at 6 (λ j. j belongs_to 63) tt k h))
    ∙ and_true (k belongs_to m)

pub six_all : (m : ℕ) → ((m % 64) belongs_to 0xFFFFFFFFFFFFFFFF) ≡ true
six_all m = holds_is ((m % 64) belongs_to 0xFFFFFFFFFFFFFFFF) (below_at 64 (λ k. k belongs_to 0xFFFFFFFFFFFFFFFF) tt (m % 64) (six_below m))

-- ---- a set for each value
pub no_code : (a b c v : ℕ) → (v ≡ 0 → ⊥) → (v ≡ 1 → ⊥) → (v ≡ 2 → ⊥) → for_value a b c v ≡ none
no_code a b c v p q r = rw (ne_eqb v 0 p, ne_eqb v 1 q, ne_eqb v 2 r)

-- what the sets say of k is whether the number n has the value: computed at the three values, and no other is below 3
unfoldable pub agrees : ℕ → ℕ → ℕ → ℕ → ℕ → Bool
agrees zeros ones twos k n = all_below 3 (λ v. alike (k belongs_to for_value zeros ones twos v) (eqb n v))

pub by_value : (zeros ones twos k n : ℕ) → n < 3 → T (agrees zeros ones twos k n) → (v : ℕ) → (k belongs_to for_value zeros ones twos v) ≡ eqb n v
unfolding agrees
by_value zeros ones twos k n h t v = go (dec_lt v 3)
  where
    go : Dec (v < 3) → (k belongs_to for_value zeros ones twos v) ≡ eqb n v
    go (yes l) = alike_is (k belongs_to for_value zeros ones twos v) (eqb n v) (below_at 3 (λ u. alike (k belongs_to for_value zeros ones twos u) (eqb n u)) t v l)
    go (no l) =
        ap (λ (s : ℕ). k belongs_to s) (no_code zeros ones twos v (λ e. omega arith) (λ e. omega arith) (λ e. omega arith))
        ∙ none_has k
        ∙ sym (ne_eqb n v (λ e. omega arith))

-- ---- a code, read at the flags i and j
pub code_below : (one two : Bool) → code one two < 3
code_below true two = omega arith
code_below false true = omega arith
code_below false false = omega arith

module _ (i j zeros ones twos : ℕ) where
  abbrev agrees_at : ℕ → Bool
  agrees_at c = agrees zeros ones twos c (code (i belongs_to c) (j belongs_to c))

  in_set : i < 6 → j < 6 → T (all_below 64 agrees_at) → (m v : ℕ) → ((m % 64) belongs_to for_value zeros ones twos v) ≡ eqb (code (i belongs_to m) (j belongs_to m)) v
  in_set h k t m v =
      let c = m % 64 in
      by_value zeros ones twos c (code (i belongs_to c) (j belongs_to c)) (code_below (i belongs_to c) (j belongs_to c)) (below_at 64 agrees_at t c (six_below m)) v
      ∙ ap (λ (n : ℕ). eqb n v) (ap₂ code (six_has i m h) (six_has j m k))

pub in_orientation : (m v : ℕ) → ((m % 64) belongs_to where_orientation v) ≡ eqb (orientation_code (station_from 0 (flags_of m)).orientation) v
unfolding where_orientation agrees
in_orientation = in_set 0 1 _ _ _ (omega arith) (omega arith) tt

pub in_annulment : (m v : ℕ) → ((m % 64) belongs_to where_annulment v) ≡ eqb (annulment_code (station_from 0 (flags_of m)).annulment) v
unfolding where_annulment agrees
in_annulment = in_set 2 3 _ _ _ (omega arith) (omega arith) tt

pub in_exit : (m v : ℕ) → ((m % 64) belongs_to where_exit v) ≡ eqb (route_code (station_from 0 (flags_of m)).exit) v
unfolding where_exit agrees
in_exit = in_set 4 5 _ _ _ (omega arith) (omega arith) tt
