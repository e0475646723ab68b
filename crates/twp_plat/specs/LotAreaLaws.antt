-- Laws of areas by the lots of a plat.
use Rattle.std.specs.Prelude.{◌≡◌, ℕ, ◌+◌, Bool, Some}
use Rattle.twp_measure.specs.Areas.{Fraction}
use Rattle.twp_grid.specs.Winding.{IsSection}
use Rattle.twp_grid.specs.Lots.{position_of_lot}
use Rattle.twp_grid.specs.Lands.{Lotting, HasWholeLots, union, intersection, difference}
use Rattle.twp_grid.specs.Lands.{standard_lots}
use Rattle.twp_plat.specs.Plats.{SurveyPlat}
use Rattle.twp_plat.specs.PlatFigures.{PlatFigures, AreFigures}
use Rattle.twp_plat.specs.PlatAccounts.{IsPlatArea}
use Rattle.twp_plat.specs.LotAreas.{IsLotArea}

-- a set of places has only one area by the lots of a plat
abbrev pub OneLotArea : Type 0
OneLotArea = (lots : Lotting) (figure : ℕ → ℕ → ℕ) (places : ℕ → ℕ → ℕ → Bool) (area area' : Fraction)
    → IsLotArea lots figure places area → IsLotArea lots figure places area' → area ≡ area'

-- the returned figures are those that a plat shows for the standard lots
abbrev pub HasFiguresOf : (ℕ → ℕ → ℕ) → PlatFigures → Type 0
HasFiguresOf figure figures = (section number column row : ℕ) → IsSection section
    → position_of_lot section number ≡ Some (column, row)
    → figure section number ≡ figures.lots section number

-- by such figures, the area of a set of places by the standard lots is its plat area
abbrev pub LotAreaIsPlatArea : Type 0
LotAreaIsPlatArea = (g : ℕ) (plat : SurveyPlat) (figures : PlatFigures) (figure : ℕ → ℕ → ℕ)
    (places : ℕ → ℕ → ℕ → Bool) (area : Fraction)
    → AreFigures plat figures → HasFiguresOf figure figures
    → IsLotArea (standard_lots g) figure places area → IsPlatArea g plat places area

-- The area of the union of two sets with whole lots and that of their intersection add up to the
-- areas of the two; and the area of what the first has alone and that of the intersection, to that
-- of the first.
abbrev pub LotAreasAdd : Type 0
LotAreasAdd = (lots : Lotting) (figure : ℕ → ℕ → ℕ) (places more : ℕ → ℕ → ℕ → Bool)
    (first second either both rest : Fraction) → HasWholeLots lots places → HasWholeLots lots more
    → IsLotArea lots figure places first → IsLotArea lots figure more second
    → IsLotArea lots figure (union places more) either
    → IsLotArea lots figure (intersection places more) both
    → IsLotArea lots figure (difference places more) rest
    → (either.units + both.units ≡ first.units + second.units)
    × (rest.units + both.units ≡ first.units)
