-- The units of a position that is not a lot.
use Rattle.std.proofs.Common.{◌≡◌, ℕ, ◌*◌, None, ap, refl, sym, ◌∙◌}
use Rattle.twp_grid.specs.Winding.{IsSection}
use Rattle.twp_grid.specs.Lots.{IsPosition, lot_at_position}
use Rattle.twp_plat.specs.Plats.{SurveyPlat, IsPlat}
use Rattle.twp_plat.specs.Pieces.{piece, over_of}
use Rattle.twp_plat.specs.Pieces.{ArePieces}
use Rattle.twp_plat.proofs.FormulaFacts.{piece_terms}
use Rattle.twp_plat.proofs.RatioFacts.{parts_of_whole}
use Rattle.twp_plat.specs.steps.Accounts.{over_by, AreUnitsBy}
use Rattle.twp_plat.specs.declared.land_area.Account.{Account}
use Rattle.twp_plat.specs.declared.land_area.Account.TheVariants.{Exact, Plat}
use Rattle.twp_plat.proofs.SectionSums.{AreRegular}
use Rattle.twp_plat.proofs.RegularFacts.{piece_off_lots}

-- its piece, in parts of the plat's denominator
pub regular_units : (plat : SurveyPlat) (pieces : ℕ → ℕ → ℕ → ℕ) (section column row : ℕ) → IsPlat plat
    → ArePieces plat pieces → IsSection section → IsPosition column row
    → lot_at_position section column row ≡ None → pieces section column row ≡ 400000000 * over_of plat
regular_units plat pieces section column row is are range position none =
    let area = are.is_piece section column row range position in
    let terms = piece_terms area.quarters column row position.0 position.1 in
    parts_of_whole (piece area.quarters column row) 400000000 (pieces section column row) (over_of plat)
    terms.some
    (piece_off_lots plat section column row area.quarters is range area.are position.0 position.1 none)
    (sym area.area_is)

-- its units by an account
pub regular_by : (account : Account) (plat : SurveyPlat) (units : ℕ → ℕ → ℕ → ℕ) (section : ℕ) → IsPlat plat
    → AreUnitsBy account plat units → IsSection section
    → AreRegular (over_by account plat) section (units section)
regular_by Exact plat units section is are range column row position none =
    regular_units plat units section column row is are range position none
regular_by Plat plat units section is are range column row position none =
    ap (λ (f : ℕ → ℕ → ℕ → ℕ). f section column row) are.units_are ∙ rw none refl
