-- The line of a number by whether it is one. Assumes nothing.
use Rattle.std.specs.Prelude.{if◌then◌else◌}
use mathlib.Core.Path.{◌≡◌, refl, sym, ap, ◌∙◌}
use Prim.Native.Nat.{ℕ}
use mathlib.Core.Bool.{Bool, true, false, not}
use lib.IntN.{ℤ, pos}
use lib.Ieee.{Float}
use Rattle.numeric.specs.Exact.{Fraction, is_number, exact_value, right, signed_error}
use Rattle.numeric.specs.Nearest.{model_value}
use Rattle.numeric.specs.Number.{Line, number_verdict, error_at, line_at}

module _ (t : Fraction) (tolerance : ℕ) where
  -- verdict 4
  pub no_number : (x model : Float) → model ≡ model_value t → is_number x ≡ false
      → ◌≡◌ {A = Line} (record { given = x; model = model; verdict = 4; error = pos 0 }) (line_at (number_verdict t tolerance x) t x)
  no_number x model m n =
      let v : 4 ≡ number_verdict t tolerance x = sym (ap (λ (b : Bool). if not b then 4 else if right t tolerance (exact_value x) then 1 else 0) n) in
      let e : pos 0 ≡ error_at (number_verdict t tolerance x) t x = ap (λ (k : ℕ). error_at k t x) v in
      λ i. record { given = x; model = m i; verdict = v i; error = e i }

  -- verdicts 0 and 1
  pub number : (x model : Float) (v : ℕ) (e : ℤ) → model ≡ model_value t → is_number x ≡ true → v ≡ (if right t tolerance (exact_value x) then 1 else 0) → e ≡ signed_error t (exact_value x)
      → ◌≡◌ {A = Line} (record { given = x; model = model; verdict = v; error = e }) (line_at (number_verdict t tolerance x) t x)
  number x model v e m n h k =
      let v' : v ≡ number_verdict t tolerance x = h ∙ sym (ap (λ (b : Bool). if not b then 4 else if right t tolerance (exact_value x) then 1 else 0) n) in
      let e' : e ≡ error_at (number_verdict t tolerance x) t x = k ∙ judged (right t tolerance (exact_value x)) ∙ ap (λ (k : ℕ). error_at k t x) (sym h ∙ v') in
      λ i. record { given = x; model = m i; verdict = v' i; error = e' i }
    where
      judged : (b : Bool) → signed_error t (exact_value x) ≡ error_at (if b then 1 else 0) t x
      judged true = refl
      judged false = refl
