-- Lines by the unit of the answer. Assumes nothing.
use Rattle.std.specs.Prelude.{if◌then◌else◌}
use mathlib.Core.Path.{◌≡◌, refl, sym, ap, ◌∙◌}
use Prim.Native.Nat.{ℕ}
use mathlib.Core.Bool.{Bool, true, false, not}
use lib.Dec.{eqb}
use borrow.Author.Tests.{eq-eqb}
use Rattle.numeric.specs.Exact.{Fraction}
use Rattle.numeric.specs.Number.{number_verdict}
use Rattle.marking.specs.Sheet.{unit_of, given_of, unit_asked, verdict_of}
use Rattle.marking.specs.declared.Answer.{Answer}

module _ (t : Fraction) (tolerance : ℕ) where
  -- an answer that is not blank, where the unit asked is n
  module _ (kind n : ℕ) (a : Answer) (asked : unit_asked kind ≡ n) (typed : eqb (unit_of a) 0 ≡ false) where
    pub by_unit : (b : Bool) → eqb (unit_of a) n ≡ b → (if not b then 3 else number_verdict t tolerance (given_of a)) ≡ verdict_of kind t tolerance a
    by_unit b u =
        sym (ap (λ (x : Bool). if x then 2 else (if not (eqb (unit_of a) (unit_asked kind)) then 3 else number_verdict t tolerance (given_of a))) typed
        ∙ ap (λ (x : Bool). if not x then 3 else number_verdict t tolerance (given_of a)) (ap (λ (k : ℕ). eqb (unit_of a) k) asked ∙ u))

-- the verdict of an answer in the unit asked is that of its number
pub asked_verdict : (t : Fraction) (tolerance kind : ℕ) (a : Answer) → unit_of a ≡ unit_asked kind → verdict_of kind t tolerance a ≡ number_verdict t tolerance (given_of a)
asked_verdict t tolerance kind a u = sym (by_unit t tolerance kind (unit_asked kind) a refl (ap (λ (n : ℕ). eqb n 0) u ∙ never_blank (eqb kind 1)) true (eq-eqb (unit_of a) (unit_asked kind) u))
  where
    never_blank : (b : Bool) → eqb (if b then 1 else 2) 0 ≡ false
    never_blank true = refl
    never_blank false = refl
