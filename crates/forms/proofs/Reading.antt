-- What a reading that found something found on the way. Assumes nothing.
use Rattle.std.specs.Prelude.{if◌then◌else◌}
use Prim.Native.Nat.{ℕ}
use mathlib.Core.Path.{◌≡◌, refl}
use mathlib.Core.Bool.{Bool, true, false}
use mathlib.Core.List.{List}
use native.Mathlib.Omega.{arith}
use Rattle.words.specs.Words.{◌and◌}
use Rattle.forms.specs.Form.{Found, nothing, found, after}

pub never : (v : Bool) → v ≡ true → v ≡ false → ⊥
never v p q = let z : ◌≡◌ {A = ℕ} 0 1 = cc in omega arith

pub both : (a b : Bool) → a and b ≡ true → (a ≡ true) × (b ≡ true)
both true b h = (refl, h)
both false b h = absurd (never false h refl)

pub both_of : {a b : Bool} → a ≡ true → b ≡ true → a and b ≡ true
both_of p q = rw p q

pub fails : (v : Bool) → (v ≡ true → ⊥) → v ≡ false
fails true h = absurd (h refl)
fails false h = refl

module _ {A : Type 0} where
  pub not_nothing : {a : A} {rest : List ℕ} → nothing ≡ found a rest → ⊥
  not_nothing e = let z : ◌≡◌ {A = ℕ} 0 1 = cc in omega arith

  pub same_value : {a b : A} {s t : List ℕ} → found a s ≡ found b t → a ≡ b
  same_value e = cc

  pub same_rest : {a b : A} {s t : List ℕ} → found a s ≡ found b t → s ≡ t
  same_rest e = cc

  -- what is found, under other names
  pub renamed : {x : Found A} {a b : A} {s t : List ℕ} → x ≡ found a s → a ≡ b → s ≡ t → x ≡ found b t
  renamed e p q = cc

pub renamed_on : {A B : Type 0} (f : A → List ℕ → Found B) {a b : A} (s : List ℕ) {x y : B} {t u : List ℕ} → a ≡ b → f a s ≡ found x t → x ≡ y → t ≡ u → f b s ≡ found y u
renamed_on f s p e q r = rw (← p, ← q, ← r) e

-- what was found before, and what was found from there on
pub record Before {A B : Type 0} (x : Found A) (next : A → List ℕ → Found B) (y : Found B) : Type 0 where
  pub value : A
  pub rest : List ℕ
  pub first : x ≡ found value rest
  pub next_found : next value rest ≡ y

pub before : {A B : Type 0} (x : Found A) (next : A → List ℕ → Found B) {b : B} {more : List ℕ} → after x next ≡ found b more → Before x next (found b more)
before nothing next e = absurd (not_nothing e)
before (found a rest) next e = record { value = a; rest = rest; first = refl; next_found = e }

-- a test that was passed on the way
pub passed : {A : Type 0} (v : Bool) {x : Found A} {a : A} {rest : List ℕ} → (if v then x else nothing) ≡ found a rest → (v ≡ true) × (x ≡ found a rest)
passed true e = (refl, e)
passed false e = absurd (not_nothing e)
