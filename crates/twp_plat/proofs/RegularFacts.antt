-- The piece of a position that is not a lot: 20 by 20 chains, on each plat.
use Rattle.std.proofs.Common.{◌≡◌, ◌==◌, ℕ, ◌+◌, ◌-◌, ◌*◌, ◌%◌, ◌≤◌, ◌<◌, ◌&&◌, Bool, true, false, Some, None}
use Rattle.std.proofs.Common.{pos, refl, ap, sym, ◌∙◌, inl, inr, arith, if◌then◌else◌, nat_le}
use Rattle.std.proofs.lemmas.Bool.{cases_eq}
use Rattle.std.proofs.lemmas.Bool.Decides.{nat_tests}
use Rattle.twp_grid.specs.Winding.{IsSection, LiesAt}
use Rattle.twp_grid.specs.Lines.{north_run, west_run}
use Rattle.twp_grid.specs.Lots.{lot_at_position}
use Rattle.twp_grid.specs.steps.WesternSections.{is_western_number}
use Rattle.twp_grid.proofs.LotFacts.{each, each_of_three, lot_at_is, lot_by_code}
use Rattle.twp_plat.specs.Plats.{SurveyPlat, IsPlat, closing_quarter_of, ClosingQuarters}
use Rattle.twp_plat.specs.Plats.{AreClosingQuarters}
use Rattle.twp_plat.specs.Pieces.{ratio, whole, IsSame}
use Rattle.twp_plat.specs.Pieces.{piece}
use Rattle.twp_plat.specs.Formula.{both_ends, west_length, north_length, both_widths, both_heights}
use Rattle.twp_plat.proofs.FormulaFacts.{piece_is_formula, piece_terms}
use Rattle.twp_plat.proofs.RatioFacts.{whole_of_parts}
use Rattle.twp_plat.proofs.SideFacts.{lines_of, west_run_regular, north_run_regular, regular_quarter}
use Rattle.twp_plat.proofs.WholeFacts.{between}

-- the order of factors
square_of : (w h : ℕ) → 40000 * w * (40000 * h) ≡ 400000000 * (4 * w * h)
square_of w h = omega arith

pub regular_piece : (q : ClosingQuarters) (column row : ℕ) → column < 4 → row < 4
    → (column ≡ 3 → (q.south ≡ 20000) × (q.north ≡ 20000))
    → (row ≡ 3 → (q.east ≡ 20000) × (q.west ≡ 20000)) → IsSame (piece q column row) (whole 400000000)
regular_piece q column row in_column in_row wide high =
    let terms = piece_terms q column row in_column in_row in
    let widths : both_widths q column row ≡ pos (40000 * west_length q) =
    between q.south q.north (west_length q) (both_ends (west_length q) row) column in_column wide in
    let heights : both_heights q column row ≡ pos (40000 * north_length q) =
    between q.east q.west (north_length q) (both_ends (north_length q) column) row in_row high in
    let same = piece_is_formula q column row in_column in_row in
    let in_parts : IsSame (piece q column row)
    (ratio (pos (40000 * west_length q * (40000 * north_length q))) (4 * west_length q * north_length q)) =
    rw (widths, heights) at same in
    whole_of_parts (piece q column row) 400000000 (4 * west_length q * north_length q) terms.top (omega arith)
    terms.numerator (rw (square_of (west_length q) (north_length q)) at in_parts)

-- the sections along the west boundary are the western ones
western_test : each 6
    (λ row. each 1 (λ a. each 1 (λ b. is_western_number (if row % 2 == 0 then 6 * row + 6 else 6 * row + 1))))
    ≡ true
unfolding each
western_test = refl

western : (section row column : ℕ) → LiesAt section row column → column ≡ 5
    → is_western_number section ≡ true
western section row column stands west =
    let in_row : row < 6 = stands.row_range in
    let test : is_western_number (if row % 2 == 0 then 6 * row + 6 else 6 * row + 1) ≡ true =
    each_of_three 6 1 1 (λ r a b. is_western_number (if r % 2 == 0 then 6 * r + 6 else 6 * r + 1)) row 0 0
    western_test in_row (omega arith) (omega arith) in
    let number : (if row % 2 == 0 then 6 * row + 6 else 6 * row + 1) ≡ section = grind (arith, nat_tests) in
    rw number at test

northern : (section row column : ℕ) → LiesAt section row column → row ≡ 0 → nat_le section 6 ≡ true
northern section row column stands north = let least : section ≤ 6 = omega arith in grind (arith, nat_tests)

-- a position in the last column of a western section is a lot, and so is one in the last row of a
-- northern section
west_is_lot : (section column row : ℕ) → IsSection section → column < 4 → row < 4
    → is_western_number section ≡ true → column ≡ 3 → lot_at_position section column row ≡ None → ⊥
west_is_lot section column row range in_column in_row west last none =
    let code : lot_by_code section column row ≡ None =
    sym (lot_at_is section column row range in_column in_row) ∙ none in
    let test : (column == 3) ≡ true = grind (arith, nat_tests) in
    go (nat_le section 6 && (row == 3)) (rw (west, test) at code)
  where
    go : (north : Bool)
        → (if north then Some (column + 1) else Some ((if nat_le section 6 then 7 else 4) - row)) ≡ None → ⊥
    go true e = cc e
    go false e = cc e

north_is_lot : (section column row : ℕ) → IsSection section → column < 4 → row < 4 → nat_le section 6 ≡ true
    → row ≡ 3 → lot_at_position section column row ≡ None → ⊥
north_is_lot section column row range in_column in_row north last none =
    let code : lot_by_code section column row ≡ None =
    sym (lot_at_is section column row range in_column in_row) ∙ none in
    let test : (row == 3) ≡ true = grind (arith, nat_tests) in
    cc (rw (north, test) at code)

-- the piece of a position that is not a lot
pub piece_off_lots : (plat : SurveyPlat) (section column row : ℕ) (q : ClosingQuarters) → IsPlat plat
    → IsSection section → AreClosingQuarters plat section q
    → column < 4 → row < 4 → lot_at_position section column row ≡ None
    → IsSame (piece q column row) (whole 400000000)
piece_off_lots plat section column row q is range are in_column in_row none =
    let lines = lines_of section are.east_line are.west_line are.north_line are.south_line are.sides in
    let tier : ℕ = lines.row in
    let place : ℕ = lines.column in
    let in_tier : tier < 6 = lines.stands.row_range in
    let in_place : place < 6 = lines.stands.column_range in
    regular_piece q column row in_column in_row
    (λ last. elim (cases_eq place 5) [
      | inl west ↦
          absurd
          (west_is_lot section column row range in_column in_row
          (western section tier place lines.stands west) last none)
      | inr east ↦ (
        are.south
            ∙ ap (closing_quarter_of plat) lines.south_is
            ∙ regular_quarter plat (west_run (tier + 1) place) is (omega arith)
            (west_run_regular (tier + 1) place (omega arith) (omega arith)),
        are.north
            ∙ ap (closing_quarter_of plat) lines.north_is
            ∙ regular_quarter plat (west_run tier place) is (omega arith)
            (west_run_regular tier place (omega arith) (omega arith)),
      )
    ])
    (λ last. elim (cases_eq tier 0) [
      | inl north ↦
          absurd
          (north_is_lot section column row range in_column in_row
          (northern section tier place lines.stands north) last none)
      | inr south ↦ (
        are.east
            ∙ ap (closing_quarter_of plat) lines.east_is
            ∙ regular_quarter plat (north_run tier place) is (omega arith)
            (north_run_regular tier place (omega arith) in_tier (omega arith)),
        are.west
            ∙ ap (closing_quarter_of plat) lines.west_is
            ∙ regular_quarter plat (north_run tier (place + 1)) is (omega arith)
            (north_run_regular tier (place + 1) (omega arith) in_tier (omega arith)),
      )
    ])
