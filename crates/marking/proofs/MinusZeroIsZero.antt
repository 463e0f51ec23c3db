-- "minus zero is zero": typed as minus zero, pattern 2 ^ 31, an answer gets the verdict and the error that plus zero, pattern 0, gets. Assumes nothing.
use Rattle.std.specs.Prelude.{if◌then◌else◌}
use mathlib.Core.Path.{◌≡◌, refl, sym, ap, ◌∙◌}
use Prim.Native.Nat.{ℕ, ◌+◌, ◌-◌, ◌*◌, ◌/◌, ◌^◌, ◌<◌, min}
use native.Mathlib.Nat.{zero-mul}
use native.Mathlib.Omega.{arith}
use mathlib.Core.Bool.{Bool, true, false, not}
use lib.Dec.{T, leb, eqb}
use lib.IntN.{ℤ, pos}
use lib.Ieee.{Float, fin, binary32, of_bits}
use borrow.Author.Tests.{lt-ltb}
use Rattle.numeric.specs.Exact.{Fraction, in_range, exact_answer, exact_value, distance, below, right, signed, signed_error}
use Rattle.marking.specs.Sheet.{unit_asked, sheet_line, marked, Marked}
use Rattle.marking.specs.Typed.{answer_of, typed_line}
use Rattle.marking.specs.declared.Answer.TheVariants.{Blank, Seconds, Metres}
use Rattle.numeric.specs.Number.{Line}
use Rattle.numeric.proofs.Ranges.{low}
use Rattle.marking.proofs.Lines.{with_line, marked_line}

-- minus zero where s is true
abbrev zero_of : Bool → Float
zero_of s = fin s 0 (pos 0)

zeros : (of_bits binary32 (2 ^ 31) ≡ zero_of true) × (of_bits binary32 0 ≡ zero_of false)
unfolding of_bits
zeros = (refl, refl)

module _ (t : Fraction) (P : 0 < t.top) where
  distances : distance t (exact_value (zero_of true)) ≡ distance t (exact_value (zero_of false))
  distances = none (0 * t.bottom) (t.top * 1) (zero-mul t.bottom)
    where
      none : (x y : ℕ) → x ≡ 0 → x + y ≡ (x - y) + (y - x)
      none x y e = omega arith

  sides : below t (exact_value (zero_of true)) ≡ below t (exact_value (zero_of false))
  sides = sym (lt-ltb (0 * t.bottom) (t.top * 1) (less (0 * t.bottom) t.top (zero-mul t.bottom) P))
    where
      less : (x y : ℕ) → x ≡ 0 → 0 < y → x < y * 1
      less x y e h = omega arith

  rights : (tolerance : ℕ) → right t tolerance (exact_value (zero_of true)) ≡ right t tolerance (exact_value (zero_of false))
  rights tolerance = ap (λ (d : ℕ). leb (1000 * d) (tolerance * (t.bottom * 1))) distances

  errors : signed_error t (exact_value (zero_of true)) ≡ signed_error t (exact_value (zero_of false))
  errors =
      ap (λ (b : Bool). signed b (min (1000 * distance t (exact_value (zero_of true)) / (t.bottom * 1)) 1000000)) sides
      ∙ ap (λ (d : ℕ). signed (below t (exact_value (zero_of false))) (min (1000 * d / (t.bottom * 1)) 1000000)) distances

  -- typed in the unit u: the verdict by whether it is right, and the error
  module _ (kind tolerance u : ℕ) where
    abbrev verdict : Bool → ℕ
    verdict b = if not (eqb u (unit_asked kind)) then 3 else if b then 1 else 0

    abbrev error : Bool → Bool → ℤ
    error b s = if leb (verdict b) 1 then signed_error t (exact_value (zero_of s)) else pos 0

    alike : (verdict (right t tolerance (exact_value (zero_of true))) ≡ verdict (right t tolerance (exact_value (zero_of false))))
        × (error (right t tolerance (exact_value (zero_of true))) true ≡ error (right t tolerance (exact_value (zero_of false))) false)
    alike = (
      ap verdict (rights tolerance),
      ap (λ (b : Bool). error b true) (rights tolerance) ∙ ap (λ (e : ℤ). if leb (verdict (right t tolerance (exact_value (zero_of false)))) 1 then e else pos 0) errors,
    )

  by_unit : (kind tolerance : ℕ) (b c : Bool)
      → let l : Bool → Line = λ s. sheet_line kind t tolerance (if b then Blank else if c then Seconds (zero_of s) else Metres (zero_of s)) in
      ((l true).verdict ≡ (l false).verdict) × ((l true).error ≡ (l false).error)
  by_unit kind tolerance true c = (refl, refl)
  by_unit kind tolerance false true = alike kind tolerance 1
  by_unit kind tolerance false false = alike kind tolerance 2

pub minus_zero_is_zero : (kind amount speed tolerance unit : ℕ) → T (in_range kind amount speed tolerance)
    → ((typed_line kind amount speed tolerance unit (2 ^ 31)).verdict ≡ (typed_line kind amount speed tolerance unit 0).verdict)
    × ((typed_line kind amount speed tolerance unit (2 ^ 31)).error ≡ (typed_line kind amount speed tolerance unit 0).error)
minus_zero_is_zero kind amount speed tolerance unit r =
    let t = exact_answer kind amount speed in
    let b = by_unit t (low kind amount speed tolerance r).0.above kind tolerance (eqb unit 0) (eqb unit 1) in
    ((line_of (2 ^ 31) true zeros.0).0 ∙ b.0 ∙ sym (line_of 0 false zeros.1).0, (line_of (2 ^ 31) true zeros.0).1 ∙ b.1 ∙ sym (line_of 0 false zeros.1).1)
  where
    line_of : (n : ℕ) (s : Bool) → of_bits binary32 n ≡ zero_of s
        → ((typed_line kind amount speed tolerance unit n).verdict ≡ (sheet_line kind (exact_answer kind amount speed) tolerance (answer_of unit (zero_of s))).verdict)
        × ((typed_line kind amount speed tolerance unit n).error ≡ (sheet_line kind (exact_answer kind amount speed) tolerance (answer_of unit (zero_of s))).error)
    line_of n s e =
        let m : marked kind amount speed tolerance (answer_of unit (of_bits binary32 n)) ≡ with_line 0 (sheet_line kind (exact_answer kind amount speed) tolerance (answer_of unit (zero_of s))) =
        ap (λ (x : Float). marked kind amount speed tolerance (answer_of unit x)) e ∙ marked_line kind amount speed tolerance (answer_of unit (zero_of s)) r in
        (ap (λ (z : Marked). z.line.verdict) m, ap (λ (z : Marked). z.line.error) m)
