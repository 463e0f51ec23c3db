-- "The model value is the float nearest to the exact answer, within one 2^24th part of it." Definitions only.
use Rattle.std.specs.Prelude.{ℕ, ◌*◌, ◌^◌, ◌≤◌, false, T, Float}
use Rattle.std.specs.Float.{binary32}
use Rattle.std.specs.Float.Ieee.{round, fits}
use Rattle.numeric.specs.Exact.{Fraction, is_number, exact_value, distance}

-- the fraction, rounded as a division of floats rounds it
abbrev pub model_value : Fraction → Float
model_value t = round binary32 false t.top t.bottom

-- the distance of a float is distance / (bottom * under), so two are compared crosswise
abbrev pub distance_of : Fraction → Float → ℕ
distance_of t x = distance t (exact_value x)

abbrev pub under : Float → ℕ
under x = (exact_value x).under

-- what makes a float the model value
pub record Nearest (t : Fraction) (r : Float) : Type 0 where
  pub number : T (is_number r)
  -- the distance of r is at most one 2^24th part of top / bottom
  pub within : distance_of t r * 2 ^ 24 ≤ t.top * under r
  -- no finite f32 is nearer
  pub nearest : (y : Float) → T (fits binary32 y) → T (is_number y) → distance_of t r * under y ≤ distance_of t y * under r
