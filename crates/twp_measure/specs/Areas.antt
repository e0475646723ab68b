-- Areas as exact fractions, their rounding to hundredths of an acre, which are printed, and the text of
-- acres.
use Rattle.std.specs.Prelude.{ℕ, ◌+◌, ◌*◌, ◌/◌, ◌^◌, ◌≤◌, ◌<◌, ◌%◌, List, [], ◌∷◌, ◌++◌, decimal}
use Rattle.twp_measure.specs.LengthTexts.{point, digit_byte}

-- a number of square thousandths of a chain over a denominator
pub record Fraction : Type 0 where
  pub units : ℕ
  pub over : ℕ

-- the most units of an area (this project's limit)
abbrev pub MOST_UNITS : ℕ
MOST_UNITS = 10 ^ 24

-- a hundredth of an acre in square thousandths of a chain: an acre is 10 square chains
abbrev pub HUNDREDTH_OF_AN_ACRE : ℕ
HUNDREDTH_OF_AN_ACRE = 10 * (1000 * 1000) / 100

-- the bounds within which a fraction is an area
pub record IsArea (units over : ℕ) : Type 0 where
  pub units_bound : units ≤ MOST_UNITS
  pub over_range : (0 < over) × (over < 2 ^ 64)

-- a hundredth of an acre in the units of an area
abbrev pub hundredth_of : Fraction → ℕ
hundredth_of area = HUNDREDTH_OF_AN_ACRE * area.over

-- the area is h hundredths of an acre, rounded half up; both sides are doubled, so that halves are whole
pub record IsRounded (area : Fraction) (h : ℕ) : Type 0 where
  pub least : 2 * h * hundredth_of area ≤ 2 * area.units + hundredth_of area
  pub most : 2 * area.units < 2 * h * hundredth_of area + hundredth_of area

-- hundredths of an acre as acres: whole acres, a point, and two decimals
abbrev pub acres_text : ℕ → List ℕ
acres_text hundredths = decimal (hundredths / 100)
    ++ point ∷ digit_byte (hundredths / 10 % 10) ∷ digit_byte (hundredths % 10) ∷ []
