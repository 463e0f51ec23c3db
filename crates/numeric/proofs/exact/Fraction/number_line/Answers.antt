-- `number_line` judges the value that the pattern stands for: the cuts of its distance give the verdict and the error of the definition.
use Rattle.std.specs.Prelude.{if◌then◌else◌}
use mathlib.Core.Path.{◌≡◌, refl, sym, ap, ◌∙◌, subst}
use Prim.Native.Nat.{ℕ, ◌*◌, ◌/◌, ◌^◌, ◌≤◌, min}
use native.Mathlib.Nat.{mul-le-mul}
use mathlib.Core.Bool.{Bool, true}
use lib.Dec.{T, leb}
use lib.Pow.{pow_pos}
use lib.Ieee.{binary32, fits}
use lib.Ieee.Exact.{HasValue}
use mir.Syntax.{w32}
use mir.Val.{to_z, of_z}
use mir.ValLaws.{to_z-of_z}
use Rattle.std.proofs.Common.{rules}
use Rattle.numeric.specs.Exact.{◌÷◌, is_number, exact_value, distance, right, below, signed, signed_error}
use Rattle.numeric.specs.Inner.{value_of}
use Rattle.numeric.specs.Nearest.{model_value}
use Rattle.numeric.specs.Told.{verdict_number}
use Rattle.numeric.proofs.Cutting.{right_cut, error_cut}
use Rattle.numeric.proofs.SameValue.{right_of, error_of}
use Rattle.numeric.proofs.Patterns.{finite_is, number_field, value_at}
use Rattle.numeric.proofs.NumberLine.{no_number, number}
use Rattle.numeric.proofs.exact.Fraction.number_line.Goals as goal

pub returns-then-not-is_finite : goal.returns-then-not-is_finite
returns-then-not-is_finite c =
    let t = c.args.self.top ÷ c.args.self.bottom in
    c.unjudged_line.ensures
    ∙ no_number t c.args.tolerance c.args.given (model_value t) refl (sym (finite_is c.args.given) ∙ sym c.is_finite.ensures.value ∙ c.if-not-is_finite.true)

pub returns : goal.returns
returns c =
    let x = c.args.given in
    let exact = c.args.self in
    let t = exact.top ÷ exact.bottom in
    let tolerance = c.args.tolerance in
    -- what owning an `f32` tells: the format holds it
    let fitting : T (fits binary32 x) = subst T (sym c.well_formed.1.1.0.1) tt in
    let finite : is_number x ≡ true = sym (finite_is x) ∙ sym c.is_finite.ensures.value ∙ c.if-not-is_finite.false in
    let d = c.of_pattern.result in
    let e = c.of_pattern.ensures in
    -- the number that `gap_between` was handed is the one given
    let equals : HasValue x d.negative (d.digits * 2 ^ d.power) (2 ^ 149) = value_at x d.negative d.digits d.power fitting (number_field x fitting finite) e.negative e.digits e.power in
    let v = value_of d in
    let gap = c.gap_between-gap in
    let miss = c.min-miss in
    let slack : tolerance * t.bottom ≤ 10000000 = mul-le-mul c.requires exact.small in
    let judged : leb gap.result.high (c.from.result * c.from-bottom.result) ≡ right t tolerance (exact_value x) =
    ap (λ (z : ℕ). leb gap.result.high (z * c.from-bottom.result)) c.from.ensures
    ∙ ap (λ (z : ℕ). leb gap.result.high (tolerance * z)) c.from-bottom.ensures
    ∙ right_cut (1000 * distance t v) (2 ^ 149) gap.result.low gap.result.high t.bottom gap.ensures.cuts tolerance slack
    ∙ right_of t d.negative (d.digits * 2 ^ d.power) (2 ^ 149) (pow_pos 149) tolerance x equals in
    let least : miss.result ≡ min (1000 * distance t v / (t.bottom * 2 ^ 149)) 1000000 =
    miss.ensures
    ∙ ap (λ (z : ℕ). min (gap.result.low / c.from-bottom.result) z) c.from-2.ensures
    ∙ ap (λ (z : ℕ). min (gap.result.low / z) 1000000) c.from-bottom.ensures
    ∙ error_cut (1000 * distance t v) (2 ^ 149) gap.result.low gap.result.high t.bottom gap.ensures.cuts (pow_pos 149) exact.under exact.small in
    let signs : signed gap.result.below miss.result ≡ signed_error t v =
    ap (λ (b : Bool). signed b miss.result) gap.ensures.side ∙ ap (λ (n : ℕ). signed (below t v) n) least in
    number t tolerance x c.model_value-model.result (verdict_number c.verdict-verdict.result) (to_z w32 (of_z w32 c.with_sign-error.result)) c.model_value-model.ensures finite
    (c.verdict-verdict.ensures ∙ ap (λ (b : Bool). if b then 1 else 0) judged)
    (to_z-of_z w32 c.with_sign-error.result (search rules)
    ∙ c.with_sign-error.ensures
    ∙ signs
    ∙ error_of t d.negative (d.digits * 2 ^ d.power) (2 ^ 149) (pow_pos 149) exact.under x equals)
