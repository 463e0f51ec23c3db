-- "The signed error is (answer minus exact) in thousandths, cut toward zero, held to -1,000,000..1,000,000; zero for verdicts 2 to 4": said of the error alone, without a division. Assumes nothing.
use Rattle.std.specs.Prelude.{if◌then◌else◌}
use mathlib.Core.Path.{◌≡◌, refl, sym, ap, ◌∙◌, subst}
use Prim.Native.Nat.{ℕ, zero, suc, ◌+◌, ◌*◌, ◌/◌, ◌≤◌, ◌<◌, min}
use native.Mathlib.Nat.{le_trans, le_of_eq, mul-pos, le-div_iff_mul-le, div-lt_iff_lt-mul, mul-le-mul_right}
use native.Mathlib.Omega.{arith}
use mathlib.Core.Bool.{Bool, true, false}
use lib.Dec.{T, leb}
use lib.IntN.{ℤ, pos, nat_abs}
use lib.Ieee.{Float, nan, inf, fin}
use lib.Ieee.Fits.{down_pos}
use Rattle.numeric.specs.Exact.{Fraction, Value, in_range, exact_answer, exact_value, distance, below, signed, signed_error}
use Rattle.marking.specs.Sheet.{given_of, marked, Marked}
use Rattle.marking.specs.declared.Answer.{Answer}
use Rattle.numeric.proofs.Ranges.{low}
use Rattle.marking.proofs.Lines.{marked_line}

-- the error e of a value v, whose distance in thousandths is 1000 * distance / (bottom * under)
pub record CutError (t : Fraction) (v : Value) (e : ℤ) : Type 0 where
  -- its sign
  pub sign : e ≡ signed (below t v) (nat_abs e)
  -- toward zero: not past the exact error
  pub reached : nat_abs e * (t.bottom * v.under) ≤ 1000 * distance t v
  pub held : nat_abs e ≤ 1000000
  -- and less than one thousandth from it, where it is not held
  pub close : nat_abs e < 1000000 → 1000 * distance t v < (nat_abs e + 1) * (t.bottom * v.under)

pub size_is : (b : Bool) (n : ℕ) → nat_abs (signed b n) ≡ n
size_is true zero = refl
size_is true (suc n) = refl
size_is false n = refl

cut : (t : Fraction) (v : Value) → 0 < t.bottom → 0 < v.under → CutError t v (signed_error t v)
cut t v Q C =
    let w = t.bottom * v.under in
    let W = mul-pos Q C in
    let d = 1000 * distance t v in
    let n = min (d / w) 1000000 in
    let s = size_is (below t v) n in
    record {
      sign = ap (λ (k : ℕ). signed (below t v) k) (sym s);
      reached = le_trans (mul-le-mul_right w (le_trans (le_of_eq s) (least (d / w)))) ((le-div_iff_mul-le W).0 (same (d / w)));
      held = le_trans (le_of_eq s) (most (d / w));
      close = λ l. (div-lt_iff_lt-mul W).0 (next (d / w) (nat_abs (signed_error t v)) s l);
    }
  where
    least : (x : ℕ) → min x 1000000 ≤ x
    least x = omega arith

    same : (x : ℕ) → x ≤ x
    same x = omega arith

    most : (x : ℕ) → min x 1000000 ≤ 1000000
    most x = omega arith

    next : (x k : ℕ) → k ≡ min x 1000000 → k < 1000000 → x < k + 1
    next x k e l = omega arith

under_pos : (x : Float) → 0 < (exact_value x).under
under_pos nan = omega arith
under_pos (inf s) = omega arith
under_pos (fin s m e) = down_pos e

module _ (kind amount speed tolerance : ℕ) (a : Answer) (r : T (in_range kind amount speed tolerance)) where
  error_by : (b : Bool) → leb (marked kind amount speed tolerance a).line.verdict 1 ≡ b → (marked kind amount speed tolerance a).line.error ≡ (if b then signed_error (exact_answer kind amount speed) (exact_value (given_of a)) else pos 0)
  error_by b h =
      let e = marked_line kind amount speed tolerance a r in
      ap (λ (m : Marked). m.line.error) e
      ∙ ap (λ (x : Bool). if x then signed_error (exact_answer kind amount speed) (exact_value (given_of a)) else pos 0) (sym (ap (λ (m : Marked). leb m.line.verdict 1) e) ∙ h)

  pub error_is_the_cut : leb (marked kind amount speed tolerance a).line.verdict 1 ≡ true → CutError (exact_answer kind amount speed) (exact_value (given_of a)) (marked kind amount speed tolerance a).line.error
  error_is_the_cut h =
      let t = exact_answer kind amount speed in
      subst (λ (e : ℤ). CutError t (exact_value (given_of a)) e) (sym (error_by true h)) (cut t (exact_value (given_of a)) (low kind amount speed tolerance r).0.bottom (under_pos (given_of a)))

  pub error_is_zero : leb (marked kind amount speed tolerance a).line.verdict 1 ≡ false → (marked kind amount speed tolerance a).line.error ≡ pos 0
  error_is_zero h = error_by false h
