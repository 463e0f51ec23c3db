-- A test that holds of no section holds of none of them, and back; tests that agree. Assumes nothing.
use Prim.Native.Nat.{ℕ, zero, suc, ◌≤◌}
use mathlib.Core.Path.{◌≡◌, refl, ap₂, subst}
use mathlib.Core.Bool.{Bool, false}
use native.Mathlib.Decide.{ℕ_discrete}
use native.Mathlib.Omega.{arith}
use Rattle.words.specs.Words.{◌or◌}
use Rattle.words.proofs.Tests.{both_off}
use Rattle.block.specs.Line.{some_of}

pub none_of : (n : ℕ) (test : ℕ → Bool) → some_of n test ≡ false → (k : ℕ) → 1 ≤ k → k ≤ n → test k ≡ false
none_of zero test e k low high = absurd (omega arith)
none_of (suc n) test e k low high =
    let off = both_off (test (suc n)) (some_of n test) e in
    go (ℕ_discrete (suc n) k) off.0 (λ l. none_of n test off.1 k low l)
  where
    go : Dec (suc n ≡ k) → test (suc n) ≡ false → (k ≤ n → test k ≡ false) → test k ≡ false
    go (yes d) last rest = subst (λ (j : ℕ). test j ≡ false) d last
    go (no d) last rest = rest (omega (arith, d))

pub of_none : (n : ℕ) (test : ℕ → Bool) → ((k : ℕ) → 1 ≤ k → k ≤ n → test k ≡ false) → some_of n test ≡ false
of_none zero test f = refl
of_none (suc n) test f = ap₂ ◌or◌ (f (suc n) (omega arith) (omega arith)) (of_none n test (λ k low high. f k low (omega arith)))

pub some_alike : (n : ℕ) (f g : ℕ → Bool) → ((k : ℕ) → f k ≡ g k) → some_of n f ≡ some_of n g
some_alike zero f g e = refl
some_alike (suc n) f g e = ap₂ ◌or◌ (e (suc n)) (some_alike n f g e)
