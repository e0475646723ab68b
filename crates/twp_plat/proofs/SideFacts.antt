-- The lines of a section, and which of them close.
use Rattle.std.proofs.Common.{◌≡◌, ◌≢◌, ℕ, ◌+◌, ◌*◌, ◌<◌, [], ◌∷◌, get_or, Option, Some, refl}
use Rattle.std.proofs.Common.{ap, sym, ◌∙◌, inl, inr, arith}
use Rattle.std.proofs.lemmas.Bool.{cases_lt}
use Rattle.std.specs.Option.{SomeIff}
use Rattle.twp_grid.specs.Winding.{LiesAt}
use Rattle.twp_grid.proofs.WindingFacts.{same_standing}
use Rattle.twp_grid.specs.Lines.{IsLine, IsClosing, AreSides, north_run, west_run}
use Rattle.twp_plat.specs.Closing.{QUARTER_MILE}
use Rattle.twp_plat.specs.Plats.{SurveyPlat, IsPlat, closing_quarter_of, ClosingQuarters}
use Rattle.twp_plat.specs.Plats.{AreClosingQuarters}
use Rattle.twp_plat.specs.steps.SideLimits.{HaveRegularLines}
use Rattle.twp_plat.specs.Pieces.{line_length, over_of}

-- the row and the column of a section, and its lines by index
pub record Lines (section east west north south : ℕ) : Type 0 where
  pub row : ℕ
  pub column : ℕ
  pub stands : LiesAt section row column
  pub east_is : east ≡ north_run row column
  pub west_is : west ≡ north_run row (column + 1)
  pub north_is : north ≡ west_run row column
  pub south_is : south ≡ west_run (row + 1) column

pub lines_of : (section east west north south : ℕ) → AreSides section (east ∷ west ∷ north ∷ south ∷ [])
    → Lines section east west north south
lines_of section east west north south are = record {
  row = are.row;
  column = are.column;
  stands = are.stands;
  east_is = ap (λ sides. get_or sides 0 0) are.sides_are;
  west_is = ap (λ sides. get_or sides 1 0) are.sides_are;
  north_is = ap (λ sides. get_or sides 2 0) are.sides_are;
  south_is = ap (λ sides. get_or sides 3 0) are.sides_are;
}

-- a west-run line outside the western column is not a closing line, nor is a north-run line outside
-- the northern row
pub west_run_regular : (tier column : ℕ) → tier < 7 → column < 5 → ¬ IsClosing (west_run tier column)
west_run_regular tier column in_tier east (inl (place, below, is)) = omega arith
west_run_regular tier column in_tier east (inr (tier', below, is)) = omega arith

pub north_run_regular : (row place : ℕ) → 0 < row → row < 6 → place < 7 → ¬ IsClosing (north_run row place)
north_run_regular row place south below in_place (inl (place', below', is)) = omega arith
north_run_regular row place south below in_place (inr (tier, below', is)) = omega arith

-- the section in the northwest corner is section 6
pub corner_is_six : (section row column : ℕ) → LiesAt section row column → row ≡ 0 → column ≡ 5
    → section ≡ 6
corner_is_six section row column stands top west = omega arith

-- the closing quarter of a line other than a closing line is regular
pub regular_quarter : (plat : SurveyPlat) (line : ℕ) → IsPlat plat → line < 84 → ¬ IsClosing line
    → closing_quarter_of plat line ≡ QUARTER_MILE
regular_quarter plat line is is_line regular = (is.within line is_line).regular regular

-- Outside section 6, a section's north and south lines are regular, or its east and west lines are.
pub regular_outside_six : (plat : SurveyPlat) (section : ℕ) (q : ClosingQuarters) → IsPlat plat
    → AreClosingQuarters plat section q → section ≢ 6 → HaveRegularLines q
regular_outside_six plat section q is are other =
    let lines = lines_of section are.east_line are.west_line are.north_line are.south_line are.sides in
    let row : ℕ = lines.row in
    let column : ℕ = lines.column in
    let in_row : row < 6 = lines.stands.row_range in
    let in_column : column < 6 = lines.stands.column_range in
    elim (cases_lt column 5) [
      | inl east ↦ inl (
        are.north ∙ ap (closing_quarter_of plat) lines.north_is
            ∙ regular_quarter plat (west_run row column) is (omega arith)
            (west_run_regular row column (omega arith) east),
        are.south ∙ ap (closing_quarter_of plat) lines.south_is
            ∙ regular_quarter plat (west_run (row + 1) column) is (omega arith)
            (west_run_regular (row + 1) column (omega arith) east),
      )
      | inr west ↦ elim (cases_lt 0 row) [
        | inl south ↦ inr (
          are.east ∙ ap (closing_quarter_of plat) lines.east_is
              ∙ regular_quarter plat (north_run row column) is (omega arith)
              (north_run_regular row column south in_row (omega arith)),
          are.west ∙ ap (closing_quarter_of plat) lines.west_is
              ∙ regular_quarter plat (north_run row (column + 1)) is (omega arith)
              (north_run_regular row (column + 1) south in_row (omega arith)),
        )
        | inr north ↦
            absurd (other (corner_is_six section row column lines.stands (omega arith) (omega arith)))
      ]
    ]

-- a section of a plat has only one closing quarter on each side
pub one_quarters : (plat : SurveyPlat) (section : ℕ) (q q' : ClosingQuarters)
    → AreClosingQuarters plat section q → AreClosingQuarters plat section q' → q ≡ q'
one_quarters plat section q q' are are' =
    let lines = lines_of section are.east_line are.west_line are.north_line are.south_line are.sides in
    let lines' = lines_of section are'.east_line are'.west_line are'.north_line are'.south_line are'.sides in
    let same =
    same_standing section lines.row lines.column lines'.row lines'.column lines.stands lines'.stands in
    let same_row : lines.row ≡ lines'.row = same.0 in
    let same_column : lines.column ≡ lines'.column = same.1 in
    let east : are.east_line ≡ are'.east_line = omega (arith, lines.east_is, lines'.east_is) in
    let west : are.west_line ≡ are'.west_line = omega (arith, lines.west_is, lines'.west_is) in
    let north : are.north_line ≡ are'.north_line = omega (arith, lines.north_is, lines'.north_is) in
    let south : are.south_line ≡ are'.south_line = omega (arith, lines.south_is, lines'.south_is) in
    let by_east : q.east ≡ q'.east = are.east ∙ ap (closing_quarter_of plat) east ∙ sym are'.east in
    let by_west : q.west ≡ q'.west = are.west ∙ ap (closing_quarter_of plat) west ∙ sym are'.west in
    let by_north : q.north ≡ q'.north = are.north ∙ ap (closing_quarter_of plat) north ∙ sym are'.north in
    let by_south : q.south ≡ q'.south = are.south ∙ ap (closing_quarter_of plat) south ∙ sym are'.south in
    let four : ℕ → ℕ → ℕ → ℕ → ClosingQuarters =
    λ e w n s. record { east = e; west = w; north = n; south = s } in
    ap (λ e. four e q.west q.north q.south) by_east ∙ ap (λ w. four q'.east w q.north q.south) by_west
    ∙ ap (λ n. four q'.east q'.west n q.south) by_north ∙ ap (λ s. four q'.east q'.west q'.north s) by_south

-- the denominator of a plat, by the closing quarters of section 6
pub over_is : (plat : SurveyPlat) (q : ClosingQuarters) → AreClosingQuarters plat 6 q
    → over_of plat ≡ 4 * line_length q.north * line_length q.west
unfolding over_of
over_is plat q are =
    let lines = lines_of 6 are.east_line are.west_line are.north_line are.south_line are.sides in
    let corner : LiesAt 6 0 5 =
    record { row_range = omega arith; column_range = omega arith; winds = inl (refl, refl) } in
    let same = same_standing 6 lines.row lines.column 0 5 lines.stands corner in
    let north : are.north_line ≡ 47 = omega (arith, lines.north_is, same.0, same.1) in
    let west : are.west_line ≡ 6 = omega (arith, lines.west_is, same.0, same.1) in
    let by_north : q.north ≡ closing_quarter_of plat 47 = are.north ∙ ap (closing_quarter_of plat) north in
    let by_west : q.west ≡ closing_quarter_of plat 6 = are.west ∙ ap (closing_quarter_of plat) west in
    rw (by_north, by_west) refl

-- the line at an index has this index
pub line_at : (index line : ℕ) (found : Option ℕ) → SomeIff found (IsLine index) index → found ≡ Some line
    → line ≡ index
line_at index line found is there = (rw there at is).1
