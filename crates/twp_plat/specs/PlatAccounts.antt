-- The account by plat areas: a land office can count each whole lot at the acreage that the plat
-- shows for it, and all other land at its nominal area.
use Rattle.std.specs.Prelude.{◌≡◌, ◌==◌, ℕ, ◌+◌, ◌*◌, Bool, List, filter, sum_by}
use Rattle.twp_measure.specs.Areas.{Fraction, HUNDREDTH_OF_AN_ACRE}
use Rattle.twp_grid.specs.Winding.{SECTION_COUNT}
use Rattle.twp_grid.specs.Lots.{Lot, lots}
use Rattle.twp_grid.specs.Spans.{whole_block, position_block}
use Rattle.twp_grid.specs.Spans.{total}
use Rattle.twp_grid.specs.Lands.{count_held}
use Rattle.twp_grid.specs.Lands.{off_lots}
use Rattle.twp_grid.specs.Lands.{standard_lots}
use Rattle.twp_plat.specs.Closing.{QUARTER_MILE}
use Rattle.twp_plat.specs.Plats.{SurveyPlat}
use Rattle.twp_plat.specs.LandAreas.{places_of_position, IsLandArea}
use Rattle.twp_plat.specs.declared.land_area.Account.{Account}
use Rattle.twp_plat.specs.declared.land_area.Account.TheVariants.{Exact, Plat}
use Rattle.twp_plat.specs.PlatFigures.{PlatFigures, AreFigures}

-- the set contains the lot: all places of the position that the lot fills
abbrev pub holds_lot : ℕ → (ℕ → ℕ → ℕ → Bool) → Lot → Bool
holds_lot g places lot =
    count_held (places lot.section) (position_block g lot.column lot.row) == places_of_position g

-- the lots in the table that the set contains
abbrev pub lots_held : ℕ → (ℕ → ℕ → ℕ → Bool) → List Lot
lots_held g places = filter (holds_lot g places) lots

-- how many places off the lots the set contains
abbrev pub places_off_lots : ℕ → (ℕ → ℕ → ℕ → Bool) → ℕ
places_off_lots g places = total SECTION_COUNT (λ before.
    count_held (off_lots (standard_lots g) (before + 1) (places (before + 1))) (whole_block g))

-- a lot's units: 100,000 for each hundredth of an acre that the plat shows for it
abbrev pub printed_units : PlatFigures → Lot → ℕ
printed_units figures lot = HUNDREDTH_OF_AN_ACRE * figures.lots lot.section lot.number

-- the units of a place off the lots: each place of a position has an equal share of its 20 by 20
-- chains
abbrev pub IsNominalShare : ℕ → ℕ → Type 0
IsNominalShare g share = places_of_position g * share ≡ QUARTER_MILE * QUARTER_MILE

-- The plat area of a set of places that contains each lot wholly or not at all: the printed units
-- of each lot in it, and the nominal share of each place in it off the lots.
pub record IsPlatArea (g : ℕ) (plat : SurveyPlat) (places : ℕ → ℕ → ℕ → Bool)
    (area : Fraction) : Type 0 where
  pub figures : PlatFigures
  pub are : AreFigures plat figures
  pub share : ℕ
  pub share_is : IsNominalShare g share
  pub over_is : area.over ≡ 1
  pub sum_is : area.units
      ≡ sum_by (printed_units figures) (lots_held g places) + share * places_off_lots g places

-- the area of a set of places by an account
abbrev pub IsAreaBy : Account → ℕ → SurveyPlat → (ℕ → ℕ → ℕ → Bool) → Fraction → Type 0
IsAreaBy Exact g plat places area = IsLandArea g plat places area
IsAreaBy Plat g plat places area = IsPlatArea g plat places area
