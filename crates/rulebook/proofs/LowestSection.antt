-- The lowest of some sections in a set is in it, and none of them below it is; 0 only where none is in it. Assumes nothing.
use Rattle.std.specs.Prelude.{if◌then◌else◌}
use Prim.Native.Nat.{ℕ, zero, suc, ◌+◌, ◌≤◌, ◌<◌}
use mathlib.Core.Bool.{Bool, true, false}
use mathlib.Core.Logic.{◌⊎◌, inl, inr}
use mathlib.Core.Path.{◌≡◌, refl, sym, ap, ◌∙◌}
use native.Mathlib.Decide.{ℕ_discrete}
use native.Mathlib.Omega.{arith}
use Rattle.sections.specs.Sections.{none, ◌belongs_to◌}
use Rattle.sections.proofs.SetLaws.{none_has}
use Rattle.rulebook.specs.Names.{lowest_from}

module _ (m : ℕ) where
  -- r is the lowest of n sections from k on
  pub record Lowest (k n r : ℕ) : Type 0 where
    pub low : k ≤ r
    pub high : r < k + n
    pub found : (r belongs_to m) ≡ true
    pub least : (j : ℕ) → k ≤ j → j < r → (j belongs_to m) ≡ false

  abbrev pub NoneOf : ℕ → ℕ → Type 0
  NoneOf k n = (j : ℕ) → k ≤ j → j < k + n → (j belongs_to m) ≡ false

  first_or_later : (k j : ℕ) → (k belongs_to m) ≡ false → k ≤ j → (k + 1 ≤ j → (j belongs_to m) ≡ false) → (j belongs_to m) ≡ false
  first_or_later k j e l later = go (ℕ_discrete k j)
    where
      go : Dec (k ≡ j) → (j belongs_to m) ≡ false
      go (yes same) = ap (λ (i : ℕ). i belongs_to m) (sym same) ∙ e
      go (no other) = later (omega (arith, other))

  pub lowest : (k n : ℕ) → NoneOf k n ⊎ Lowest k n (lowest_from k n m)
  unfolding lowest_from
  lowest k zero = inl (λ j l h. absurd (omega arith))
  lowest k (suc n) = go (k belongs_to m) refl (lowest (k + 1) n)
    where
      go : (v : Bool) → (k belongs_to m) ≡ v → NoneOf (k + 1) n ⊎ Lowest (k + 1) n (lowest_from (k + 1) n m)
          → NoneOf k (suc n) ⊎ Lowest k (suc n) (if v then k else lowest_from (k + 1) n m)
      go true e rest = inr (record { low = omega arith; high = omega arith; found = e; least = λ j l h. absurd (omega arith) })
      go false e (inl none) = inl (λ j l h. first_or_later k j e l (λ later. none j later (omega arith)))
      go false e (inr w) =
          inr (record { low = omega (arith, w.low); high = omega (arith, w.high); found = w.found; least = λ j l h. first_or_later k j e l (λ later. w.least j later h) })

  -- a section's number, or 0
  pub lowest_below : (k n : ℕ) → lowest_from k n m ≤ k + n
  unfolding lowest_from
  lowest_below k zero = omega arith
  lowest_below k (suc n) = go (k belongs_to m) (lowest_below (k + 1) n)
    where
      go : (v : Bool) → lowest_from (k + 1) n m ≤ k + 1 + n → (if v then k else lowest_from (k + 1) n m) ≤ k + suc n
      go true h = omega arith
      go false h = omega (arith, h)

pub lowest_of_none : (k n : ℕ) → lowest_from k n none ≡ 0
unfolding lowest_from
lowest_of_none k zero = refl
lowest_of_none k (suc n) = rw (none_has k) (lowest_of_none (k + 1) n)
