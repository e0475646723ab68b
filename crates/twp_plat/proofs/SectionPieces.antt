-- The pieces of each plat, which are unique.
use Rattle.std.proofs.Common.{◌≡◌, ℕ, ◌+◌, ◌-◌, ◌/◌, ◌%◌, ◌<◌, ◌≤◌, ◌⊎◌, ap, refl, sym, inl, inr}
use Rattle.std.proofs.Common.{arith}
use Rattle.std.proofs.lemmas.Bool.{cases_lt}
use Rattle.twp_measure.specs.Areas.{Fraction}
use Rattle.twp_grid.specs.Winding.{IsSection, LiesAt}
use Rattle.twp_grid.specs.Lines.{north_run, west_run}
use Rattle.twp_grid.specs.Lots.{IsPosition}
use Rattle.twp_grid.proofs.WindingFacts.{parity, stands_even, stands_odd}
use Rattle.twp_plat.specs.Plats.{SurveyPlat, IsPlat, closing_quarter_of, ClosingQuarters}
use Rattle.twp_plat.specs.Plats.{AreClosingQuarters}
use Rattle.twp_plat.specs.Pieces.{IsPieceArea, over_of}
use Rattle.twp_plat.specs.Pieces.{ArePieces}
use Rattle.twp_plat.proofs.PlatPieces.{piece_is_over}
use Rattle.twp_plat.proofs.OneAnswer.{one_area}

-- the row and the column of a section
record Stands (section : ℕ) : Type 0 where
  row : ℕ
  column : ℕ
  stands : LiesAt section row column

standing : (section : ℕ) → IsSection section → Stands section
standing section range = elim (parity ((section - 1) / 6)) [
  | inl even ↦
      record { row = (section - 1) / 6; column = (section - 1) % 6; stands = stands_even section range even }
  | inr odd ↦ record {
    row = (section - 1) / 6;
    column = 5 - (section - 1) % 6;
    stands = stands_odd section range (λ e. absurd (omega arith));
  }
]

-- a section's closing quarters
record Quarters (plat : SurveyPlat) (section : ℕ) : Type 0 where
  quarters : ClosingQuarters
  are : AreClosingQuarters plat section quarters

quarters_of : (plat : SurveyPlat) (section : ℕ) → IsSection section → Quarters plat section
quarters_of plat section range =
    let at = standing section range in
    let line : ℕ → ℕ = closing_quarter_of plat in
    record {
      quarters = record {
        east = line (north_run at.row at.column);
        west = line (north_run at.row (at.column + 1));
        north = line (west_run at.row at.column);
        south = line (west_run (at.row + 1) at.column);
      };
      are = record {
        east_line = north_run at.row at.column;
        west_line = north_run at.row (at.column + 1);
        north_line = west_run at.row at.column;
        south_line = west_run (at.row + 1) at.column;
        sides = record { row = at.row; column = at.column; stands = at.stands; sides_are = refl };
        east = refl;
        west = refl;
        north = refl;
        south = refl;
      };
    }

-- a position in a township
abbrev InTownship : ℕ → ℕ → ℕ → Type 0
InTownship section column row = IsSection section × IsPosition column row

in_township : (section column row : ℕ) → InTownship section column row ⊎ (InTownship section column row → ⊥)
in_township section column row = elim (cases_lt 0 section) [
  | inr none ↦ inr (λ h. let some : 1 ≤ section = h.0.0 in omega arith)
  | inl some ↦ elim (cases_lt 36 section) [
    | inl over ↦ inr (λ h. let most : section ≤ 36 = h.0.1 in omega arith)
    | inr most ↦ elim (cases_lt column 4) [
      | inr out ↦ inr (λ h. let inside : column < 4 = h.1.0 in omega arith)
      | inl in_column ↦ elim (cases_lt row 4) [
        | inr out ↦ inr (λ h. let inside : row < 4 = h.1.1 in omega arith)
        | inl in_row ↦ inl ((omega arith, omega arith), (in_column, in_row))
      ]
    ]
  ]
]

-- the units of a position's piece over the plat's denominator
unfoldable units_of : (plat : SurveyPlat) → IsPlat plat → (section column row : ℕ)
    → InTownship section column row ⊎ (InTownship section column row → ⊥) → ℕ
units_of plat is section column row (inl (range, position)) =
    let q = quarters_of plat section range in
    (piece_is_over plat section column row q.quarters is q.are position.0 position.1).0
units_of plat is section column row (inr outside) = 0

units_are : (plat : SurveyPlat) (is : IsPlat plat) (section column row : ℕ)
    (at : InTownship section column row ⊎ (InTownship section column row → ⊥))
    → IsSection section → IsPosition column row → IsPieceArea plat section column row (record {
      units = units_of plat is section column row at;
      over = over_of plat;
    })
unfolding units_of
units_are plat is section column row (inl (range, position)) range' position' =
    let q = quarters_of plat section range in
    record {
      quarters = q.quarters;
      are = q.are;
      area_is = sym (piece_is_over plat section column row q.quarters is q.are position.0 position.1).1;
    }
units_are plat is section column row (inr outside) range' position' = absurd (outside (range', position'))

-- the pieces of a plat
pub record HasPieces (plat : SurveyPlat) : Type 0 where
  pub pieces : ℕ → ℕ → ℕ → ℕ
  pub are : ArePieces plat pieces

pub pieces_of : (plat : SurveyPlat) → IsPlat plat → HasPieces plat
pieces_of plat is = record {
  pieces = λ section column row. units_of plat is section column row (in_township section column row);
  are = record {
    is_piece = λ section column row range position.
        units_are plat is section column row (in_township section column row) range position;
  };
}

-- a plat has only one set of pieces
pub same_pieces : (plat : SurveyPlat) (pieces pieces' : ℕ → ℕ → ℕ → ℕ) → ArePieces plat pieces
    → ArePieces plat pieces'
    → (section column row : ℕ) → IsSection section → IsPosition column row
    → pieces section column row ≡ pieces' section column row
same_pieces plat pieces pieces' are are' section column row range position =
    ap (λ (a : Fraction). a.units)
    (one_area plat section column row (record { units = pieces section column row; over = over_of plat })
    (record { units = pieces' section column row; over = over_of plat })
    position.0 position.1 (are.is_piece section column row range position)
    (are'.is_piece section column row range position) refl)

-- the piece that a function of the plat gives
pub piece_at : (plat : SurveyPlat) (pieces : ℕ → ℕ → ℕ → ℕ) (section column row : ℕ) (area : Fraction)
    → ArePieces plat pieces → IsSection section → IsPosition column row
    → IsPieceArea plat section column row area → area.over ≡ over_of plat
    → area.units ≡ pieces section column row
piece_at plat pieces section column row area are range position is over =
    ap (λ (a : Fraction). a.units)
    (one_area plat section column row area (record { units = pieces section column row; over = over_of plat })
    position.0 position.1 is (are.is_piece section column row range position) over)
