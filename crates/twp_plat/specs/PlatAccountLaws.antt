-- Laws over plat areas.
use Rattle.std.specs.Prelude.{◌≡◌, ℕ, ◌+◌, ◌*◌, ◌/◌, ◌≤◌, Bool, length}
use Rattle.twp_measure.specs.Areas.{Fraction, HUNDREDTH_OF_AN_ACRE}
use Rattle.twp_grid.specs.Lands.{union, intersection, difference}
use Rattle.twp_grid.specs.Lands.{HasWholeLots}
use Rattle.twp_grid.specs.Lands.{standard_lots}
use Rattle.twp_plat.specs.Plats.{SurveyPlat, IsPlat}
use Rattle.twp_plat.specs.LandAreas.{IsLandArea}
use Rattle.twp_plat.specs.LandAreaLaws.{AreDisjoint}
use Rattle.twp_plat.specs.PlatAccounts.{lots_held, IsPlatArea}

-- a set of places has only one plat area
abbrev pub OnePlatArea : Type 0
OnePlatArea = (g : ℕ) (plat : SurveyPlat) (places : ℕ → ℕ → ℕ → Bool) (area area' : Fraction)
    → IsPlatArea g plat places area → IsPlatArea g plat places area' → area ≡ area'

-- the plat area of two disjoint sets with whole lots together is the sum of their plat areas
abbrev pub DisjointPlatAreasAdd : Type 0
DisjointPlatAreasAdd = (g : ℕ) (plat : SurveyPlat) (places more : ℕ → ℕ → ℕ → Bool)
    (area other : Fraction) → HasWholeLots (standard_lots g) places → HasWholeLots (standard_lots g) more
    → AreDisjoint places more
    → IsPlatArea g plat places area → IsPlatArea g plat more other
    → IsPlatArea g plat (union places more)
    (record { units = area.units + other.units; over = area.over })

-- the plat area of the union of two sets with whole lots and that of their intersection add up to
-- the plat areas of the two
abbrev pub PlatUnionAndIntersectionAdd : Type 0
PlatUnionAndIntersectionAdd = (g : ℕ) (plat : SurveyPlat) (places more : ℕ → ℕ → ℕ → Bool)
    (first second either both : Fraction) → HasWholeLots (standard_lots g) places
    → HasWholeLots (standard_lots g) more
    → IsPlatArea g plat places first → IsPlatArea g plat more second
    → IsPlatArea g plat (union places more) either
    → IsPlatArea g plat (intersection places more) both
    → either.units + both.units ≡ first.units + second.units

-- the plat area of what the first of two such sets has alone and that of their intersection add up
-- to the plat area of the first
abbrev pub PlatDifferenceAndIntersectionAdd : Type 0
PlatDifferenceAndIntersectionAdd = (g : ℕ) (plat : SurveyPlat) (places more : ℕ → ℕ → ℕ → Bool)
    (first rest both : Fraction) → HasWholeLots (standard_lots g) places → HasWholeLots (standard_lots g) more
    → IsPlatArea g plat places first → IsPlatArea g plat (difference places more) rest
    → IsPlatArea g plat (intersection places more) both
    → rest.units + both.units ≡ first.units

-- half a hundredth of an acre, in units
abbrev pub HALF_A_HUNDREDTH : ℕ
HALF_A_HUNDREDTH = HUNDREDTH_OF_AN_ACRE / 2

-- two areas differ by at most a number of units, either way; both are converted to one denominator
pub record DifferByAtMost (area other : Fraction) (units : ℕ) : Type 0 where
  pub above : area.units * other.over
      ≤ other.units * area.over + units * (area.over * other.over)
  pub below : other.units * area.over
      ≤ area.units * other.over + units * (area.over * other.over)

-- on each plat, a set's exact area and its plat area differ by at most half a hundredth of an acre
-- for each lot that it contains
abbrev pub PlatAreaIsNear : Type 0
PlatAreaIsNear = (g : ℕ) (plat : SurveyPlat) (places : ℕ → ℕ → ℕ → Bool)
    (exact printed : Fraction) → IsPlat plat → HasWholeLots (standard_lots g) places
    → IsLandArea g plat places exact → IsPlatArea g plat places printed
    → DifferByAtMost exact printed (HALF_A_HUNDREDTH * length (lots_held g places))
