-- Tests that hold, taken apart and put together. Assumes nothing.
use Rattle.std.specs.Prelude.{if◌then◌else◌}
use Prim.Native.Nat.{ℕ, ◌<◌}
use mathlib.Core.Path.{◌≡◌, refl, sym, subst}
use mathlib.Core.Bool.{Bool, true, false, not, true≢false}
use mathlib.Core.Logic.{◌⊎◌, inl, inr}
use borrow.Author.Tests.{eq-eqb, leb-false}
use lib.Dec.{T, T_not, eqb, leb}
use Rattle.words.specs.Words.{◌and◌, ◌or◌}

pub holds_is : (v : Bool) → T v → v ≡ true
holds_is true t = refl
holds_is false t = absurd t

pub fails_is : (v : Bool) → T (not v) → v ≡ false
fails_is true t = absurd t
fails_is false t = refl

pub is_holds : (v : Bool) → v ≡ true → T v
is_holds true e = tt
is_holds false e = subst T (sym e) tt

pub and_at : (a b : Bool) → T (a and b) → T a × T b
and_at true b t = (tt, t)
and_at false b t = absurd t

pub and_of : (a b : Bool) → T a → T b → T (a and b)
and_of true b t h = h
and_of false b t h = absurd t

pub or_at : (a b : Bool) → T (a or b) → T a ⊎ T b
or_at true b t = inl tt
or_at false b t = inr t

pub neither : (a b : Bool) → T (not (a or b)) → T (not a) × T (not b)
neither true b t = absurd t
neither false b t = (tt, t)

pub both_off : (a b : Bool) → (a or b) ≡ false → (a ≡ false) × (b ≡ false)
both_off true b e = absurd (true≢false e)
both_off false b e = (refl, e)

pub twice_not : (v : Bool) → T (not (not v)) → T v
twice_not true t = tt
twice_not false t = absurd t

pub not_equal : (a b : ℕ) → T (not (eqb a b)) → a ≡ b → ⊥
not_equal a b t e = T_not (eqb a b) t (subst T (sym (eq-eqb a b e)) tt)

pub not_at_most : (a b : ℕ) → T (not (leb a b)) → b < a
not_at_most a b t = leb-false a b (fails_is (leb a b) t)

-- a property of a choice, from what the test says of each side
pub if_case : {X : Type 0} (P : X → Type 0) (v : Bool) (a b : X) → (T v → P a) → (T (not v) → P b) → P (if v then a else b)
if_case P true a b f g = f tt
if_case P false a b f g = g tt

pub and_true : (a : Bool) → (a and true) ≡ a
and_true true = refl
and_true false = refl

pub and_false : (a : Bool) → (a and false) ≡ false
and_false true = refl
and_false false = refl

pub or_turned : (a b : Bool) → (a or b) ≡ (b or a)
or_turned true true = refl
or_turned true false = refl
or_turned false true = refl
or_turned false false = refl
