-- The sums that the two accounts form. No public contract cites this module.
use Rattle.std.specs.Prelude.{◌≡◌, ℕ, ◌*◌}
use Rattle.std.specs.Option.{option_map_or}
use Rattle.twp_measure.specs.Areas.{HUNDREDTH_OF_AN_ACRE}
use Rattle.twp_grid.specs.Lots.{lot_at_position}
use Rattle.twp_plat.specs.Closing.{QUARTER_MILE}
use Rattle.twp_plat.specs.Plats.{SurveyPlat}
use Rattle.twp_plat.specs.Pieces.{over_of}
use Rattle.twp_plat.specs.Pieces.{ArePieces}
use Rattle.twp_plat.specs.PlatFigures.{PlatFigures, AreFigures}
use Rattle.twp_plat.specs.declared.land_area.Account.{Account}
use Rattle.twp_plat.specs.declared.land_area.Account.TheVariants.{Exact, Plat}

-- the denominator of an account
abbrev pub over_by : Account → SurveyPlat → ℕ
over_by Exact plat = over_of plat
over_by Plat plat = 1

-- a position's units: those of the lot that fills it, or of a position off the lots
abbrev pub position_units : (ℕ → ℕ → ℕ) → ℕ → ℕ → ℕ → ℕ → ℕ
position_units lot_units regular section column row =
    option_map_or (lot_units section) (lot_at_position section column row) regular

-- the units of each position, with the acreage that the plat shows for lots
pub record ArePrintedUnits (plat : SurveyPlat) (units : ℕ → ℕ → ℕ → ℕ) : Type 0 where
  pub figures : PlatFigures
  pub are : AreFigures plat figures
  pub units_are : units ≡ position_units
      (λ section lot. HUNDREDTH_OF_AN_ACRE * figures.lots section lot)
      (QUARTER_MILE * QUARTER_MILE)

-- the units of each position by an account
abbrev pub AreUnitsBy : Account → SurveyPlat → (ℕ → ℕ → ℕ → ℕ) → Type 0
AreUnitsBy Exact plat units = ArePieces plat units
AreUnitsBy Plat plat units = ArePrintedUnits plat units
