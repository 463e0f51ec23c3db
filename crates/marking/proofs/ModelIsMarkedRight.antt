-- "Typed in the unit asked, at a tolerance of 32 or more, the model value is marked right." Assumes nothing.
use Rattle.std.specs.Prelude.{if◌then◌else◌}
use mathlib.Core.Path.{◌≡◌, sym, ap, ◌∙◌}
use Prim.Native.Nat.{ℕ, ◌*◌, ◌^◌, ◌≤◌}
use native.Mathlib.Nat.{le_trans, le_of_eq, mul_assoc, mul-le-mul_right, mul-le-mul_left}
use native.Mathlib.Omega.{arith}
use mathlib.Core.Bool.{Bool, false, not}
use lib.Dec.{T}
use lib.Pow.{pow_pos}
use lib.Ieee.{Float, binary32}
use lib.Ieee.Scale.{grid}
use borrow.Author.Tests.{le-leb}
use Rattle.numeric.specs.Exact.{Fraction, apart, in_range, exact_answer, exact_value, right}
use Rattle.numeric.specs.Nearest.{model_value}
use Rattle.numeric.specs.Number.{number_verdict}
use Rattle.marking.specs.Sheet.{unit_of, given_of, unit_asked, marked, Marked}
use Rattle.marking.specs.declared.Answer.{Answer}
use Rattle.numeric.proofs.Ranges.{Low, low, under_24}
use Rattle.marking.proofs.Lines.{marked_line}
use Rattle.numeric.proofs.Rounding.{error_32, value}
use Rattle.numeric.proofs.SameValue.{right_of, number_of}
use Rattle.marking.proofs.Units.{asked_verdict}

-- 1000 / 32 is below 32: a distance of at most 1 / 32 is at most 32 thousandths
room : (x tolerance : ℕ) → 32 ≤ tolerance → 1000 * x ≤ tolerance * (x * 32)
room x tolerance h = le_trans (grow x) (mul-le-mul_right (x * 32) h)
  where
    grow : (x : ℕ) → 1000 * x ≤ 32 * (x * 32)
    grow x = omega arith

right_at_32 : (t : Fraction) (tolerance : ℕ) → Low t → 32 ≤ tolerance → number_verdict t tolerance (model_value t) ≡ 1
right_at_32 t tolerance s h =
    let p = under_24 t.top s.0.top in
    let q = under_24 t.bottom (le_trans s.0.small (omega arith)) in
    let g = grid binary32 t.top t.bottom in
    let v = value t.top t.bottom s.0.above p s.0.bottom q in
    let l : 1000 * apart (g * t.bottom) (t.top * 2 ^ 149) ≤ tolerance * (t.bottom * 2 ^ 149) =
    le_trans (mul-le-mul_left 1000 (error_32 t.top t.bottom s.0.above p s.0.bottom q s.1))
    (le_trans (room (t.bottom * 2 ^ 144) tolerance h) (le_of_eq (ap (λ (z : ℕ). tolerance * z) (mul_assoc t.bottom (2 ^ 144) 32)))) in
    ap (λ (b : Bool). if not b then 4 else if right t tolerance (exact_value (model_value t)) then 1 else 0) (number_of (model_value t) false g (2 ^ 149) v)
    ∙ ap (λ (b : Bool). if b then 1 else 0) (sym (right_of t false g (2 ^ 149) (pow_pos 149) tolerance (model_value t) v) ∙ le-leb (1000 * apart (g * t.bottom) (t.top * 2 ^ 149)) (tolerance * (t.bottom * 2 ^ 149)) l)

pub model_is_marked_right : (kind amount speed tolerance : ℕ) (a : Answer) → T (in_range kind amount speed tolerance) → 32 ≤ tolerance → unit_of a ≡ unit_asked kind → given_of a ≡ model_value (exact_answer kind amount speed) → (marked kind amount speed tolerance a).line.verdict ≡ 1
model_is_marked_right kind amount speed tolerance a r h u g =
    let t = exact_answer kind amount speed in
    ap (λ (m : Marked). m.line.verdict) (marked_line kind amount speed tolerance a r)
    ∙ asked_verdict t tolerance kind a u
    ∙ ap (λ (x : Float). number_verdict t tolerance x) g
    ∙ right_at_32 t tolerance (low kind amount speed tolerance r) h
