-- A plan and a situation sound in it are judged 0, and nothing else is. Assumes nothing.
use Rattle.std.specs.Prelude.{if◌then◌else◌}
use Prim.Native.Nat.{ℕ}
use mathlib.Core.Path.{◌≡◌, refl}
use native.Mathlib.Omega.{arith}
use lib.Dec.{T}
use Rattle.words.proofs.Tests.{if_case, holds_is}
use Rattle.block.specs.Line.{is_plan}
use Rattle.block.specs.declared.line.Plan.{Plan}
use Rattle.rulebook.specs.Situation.{Kept}
use Rattle.rulebook.specs.Sound.{sound}
use Rattle.rulebook.specs.Judged.{judged}

pub judged_accepts : (p : Plan) → T (is_plan p) → (x : Kept) → T (sound p x) → judged p x ≡ 0
judged_accepts p plan x t = rw (holds_is (is_plan p) plan, holds_is (sound p x) t) refl

pub judged_plan : (p : Plan) (x : Kept) → judged p x ≡ 0 → T (is_plan p)
judged_plan p x =
    if_case (λ (n : ℕ). n ≡ 0 → T (is_plan p)) (is_plan p) (if sound p x then 0 else 2) 1 (λ t e. t) (λ t e. absurd (omega (arith, e)))

pub judged_sound : (p : Plan) (x : Kept) → judged p x ≡ 0 → T (sound p x)
judged_sound p x =
    if_case (λ (n : ℕ). n ≡ 0 → T (sound p x)) (is_plan p) (if sound p x then 0 else 2) 1
    (λ t. if_case (λ (n : ℕ). n ≡ 0 → T (sound p x)) (sound p x) 0 2 (λ s e. s) (λ u e. absurd (omega (arith, e))))
    (λ t e. absurd (omega (arith, e)))
