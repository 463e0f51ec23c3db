-- The lowest of the sections k to n, as the code looks for it: k itself, or else of those after it. Assumes nothing.
use Prim.Native.Nat.{ℕ, suc, ◌+◌, ◌-◌, ◌≤◌, ◌<◌}
use mathlib.Core.Bool.{true, false}
use mathlib.Core.Path.{◌≡◌, refl, ap, ◌∙◌}
use native.Mathlib.Omega.{arith}
use Rattle.sections.specs.Sections.{◌belongs_to◌}
use Rattle.rulebook.specs.Names.{lowest_from}

abbrev pub lowest_up_to : ℕ → ℕ → ℕ → ℕ
lowest_up_to n k m = lowest_from k (n + 1 - k) m

module _ (n k m : ℕ) where
  left : (j : ℕ) → n + 1 - k ≡ j → lowest_up_to n k m ≡ lowest_from k j m
  left j e = ap (λ (i : ℕ). lowest_from k i m) e

  pub found : k ≤ n → (k belongs_to m) ≡ true → lowest_up_to n k m ≡ k
  unfolding lowest_from
  found h e = left (suc (n - k)) (omega arith) ∙ rw e refl

  pub later : k ≤ n → (k belongs_to m) ≡ false → lowest_up_to n k m ≡ lowest_up_to n (k + 1) m
  unfolding lowest_from
  later h e =
      let same : n - k ≡ n + 1 - (k + 1) = omega arith in
      left (suc (n - k)) (omega arith) ∙ rw e (ap (λ (i : ℕ). lowest_from (k + 1) i m) same)

  pub none_left : n < k → lowest_up_to n k m ≡ 0
  unfolding lowest_from
  none_left h = left 0 (omega arith)

pub from_first : (n m : ℕ) → lowest_up_to n 1 m ≡ lowest_from 1 n m
from_first n m = let all : n + 1 - 1 ≡ n = omega arith in ap (λ (i : ℕ). lowest_from 1 i m) all
