-- "(unit byte 0, 1, 2)": the answer that a unit byte and a float make has that unit, and the float as its number unless it is blank. Assumes nothing.
use mathlib.Core.Path.{◌≡◌, refl}
use lib.Ieee.{Float}
use Rattle.marking.specs.Sheet.{unit_of, given_of, plus_zero}
use Rattle.marking.specs.Typed.{answer_of}

pub answer_has_its_unit : (x : Float) → (unit_of (answer_of 0 x) ≡ 0) × (unit_of (answer_of 1 x) ≡ 1) × (unit_of (answer_of 2 x) ≡ 2)
answer_has_its_unit x = (refl, refl, refl)

pub answer_has_its_number : (x : Float) → (given_of (answer_of 0 x) ≡ plus_zero) × (given_of (answer_of 1 x) ≡ x) × (given_of (answer_of 2 x) ≡ x)
answer_has_its_number x = (refl, refl, refl)
