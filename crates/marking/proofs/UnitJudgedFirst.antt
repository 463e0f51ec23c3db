-- "3 other unit, 4 no number (NaN, infinite); unit is judged before 4": typed in the other unit, any float has verdict 3, and a NaN or an infinite one has 4 in the unit asked only. Assumes nothing.
use Rattle.std.specs.Prelude.{if◌then◌else◌}
use mathlib.Core.Path.{◌≡◌, refl, sym, ap, ◌∙◌}
use Prim.Native.Nat.{ℕ}
use mathlib.Core.Bool.{Bool, false, not}
use lib.Dec.{T, eqb}
use Rattle.numeric.specs.Exact.{in_range, exact_answer, is_number, exact_value, right}
use Rattle.marking.specs.Sheet.{unit_of, given_of, unit_asked, marked, Marked}
use Rattle.marking.specs.declared.Answer.{Answer}
use Rattle.marking.proofs.Lines.{marked_line}
use Rattle.marking.proofs.Units.{by_unit, asked_verdict}

module _ (kind amount speed tolerance : ℕ) (a : Answer) (r : T (in_range kind amount speed tolerance)) where
  abbrev verdict : ℕ
  verdict = (marked kind amount speed tolerance a).line.verdict

  pub other_unit_is_3 : eqb (unit_of a) 0 ≡ false → eqb (unit_of a) (unit_asked kind) ≡ false → verdict ≡ 3
  other_unit_is_3 typed other =
      ap (λ (m : Marked). m.line.verdict) (marked_line kind amount speed tolerance a r)
      ∙ sym (by_unit (exact_answer kind amount speed) tolerance kind (unit_asked kind) a refl typed false other)

  pub no_number_is_4 : unit_of a ≡ unit_asked kind → is_number (given_of a) ≡ false → verdict ≡ 4
  no_number_is_4 asked none =
      let t = exact_answer kind amount speed in
      ap (λ (m : Marked). m.line.verdict) (marked_line kind amount speed tolerance a r)
      ∙ asked_verdict t tolerance kind a asked
      ∙ ap (λ (b : Bool). if not b then 4 else if right t tolerance (exact_value (given_of a)) then 1 else 0) none
