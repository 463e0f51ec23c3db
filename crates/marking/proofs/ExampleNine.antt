-- Marked example 9: "1,500 m, 100 km/h: 54. Tolerance 50: 14168883/2^18 right, error 49; 14168884/2^18 wrong, error 50." Assumes nothing.
use mathlib.Core.Path.{◌≡◌, refl}
use Prim.Native.Nat.{ℕ, ◌*◌, ◌^◌}
use mathlib.Core.Bool.{false}
use lib.IntN.{ℤ, pos, negsuc}
use lib.Ieee.{Float, fin, binary32, round, of_bits}
use Rattle.numeric.specs.Exact.{exact_answer, exact_value}
use Rattle.marking.specs.Sheet.{marked, Marked}
use Rattle.marking.specs.declared.Answer.TheVariants.{Seconds}

abbrev pub fifty_four : Float
fifty_four = fin false 27 (pos 1)

-- 14168883 / 2 ^ 18
abbrev pub just_inside : Float
just_inside = fin false 14168883 (negsuc 17)

-- 14168884 / 2 ^ 18, written with an odd number: 3542221 / 2 ^ 16
abbrev pub just_outside : Float
just_outside = fin false 3542221 (negsuc 15)

-- their exact values, n / 2 ^ 18 of no minus
pub nine_exactly : ((exact_value just_inside).over * 2 ^ 18 ≡ 14168883 * (exact_value just_inside).under) × ((exact_value just_outside).over * 2 ^ 18 ≡ 14168884 * (exact_value just_outside).under)
nine_exactly = (refl, refl)

-- their patterns, as they are typed
pub nine_typed : (of_bits binary32 1113076531 ≡ just_inside) × (of_bits binary32 1113076532 ≡ just_outside)
unfolding of_bits
nine_typed = (refl, refl)

-- the sheet line of a number of seconds
abbrev pub nine : Float → ℕ → ℤ → Marked
nine x verdict error = record { refusal = 0; line = record { given = x; model = fifty_four; verdict = verdict; error = error } }

pub nine_is_54 : (exact_answer 1 1500 100).top ≡ 54 * (exact_answer 1 1500 100).bottom
nine_is_54 = refl

pub nine_right : marked 1 1500 100 50 (Seconds just_inside) ≡ nine just_inside 1 (pos 49)
unfolding marked round
nine_right = refl

pub nine_wrong : marked 1 1500 100 50 (Seconds just_outside) ≡ nine just_outside 0 (pos 50)
unfolding marked round
nine_wrong = refl
