-- Laws over the definitions.
use Rattle.std.specs.Prelude.{◌≡◌, ◌≢◌, ℕ, ◌<◌, pos, Result}
use Rattle.twp_measure.specs.Areas.{Fraction}
use Rattle.twp_grid.specs.Lots.{POSITIONS_ACROSS}
use Rattle.twp_notes.specs.FieldNotes.{FieldNotes}
use Rattle.twp_plat.specs.Plats.{SurveyPlat, IsPlat, IsPlatOf, ClosingQuarters}
use Rattle.twp_plat.specs.Plats.{AreClosingQuarters}
use Rattle.twp_plat.specs.PlatFaults.{AnswersPlat}
use Rattle.twp_plat.specs.Pieces.{ratio, whole, IsSame}
use Rattle.twp_plat.specs.Pieces.{piece, divisor_of, IsPieceArea, over_of}
use Rattle.twp_plat.specs.Formula.{formula}
use Rattle.twp_plat.specs.declared.fault.PlatFault.{PlatFault}

-- the same notes always have one answer
abbrev pub OneAnswer : Type 0
OneAnswer = (notes : FieldNotes) (answer answer' : Result SurveyPlat PlatFault)
    → AnswersPlat notes answer → AnswersPlat notes answer' → answer ≡ answer'

-- a section has only one closing quarter in the east, west, north, and south
abbrev pub OneQuarters : Type 0
OneQuarters = (plat : SurveyPlat) (section : ℕ) (q q' : ClosingQuarters)
    → AreClosingQuarters plat section q → AreClosingQuarters plat section q' → q ≡ q'

-- the plat of notes is a valid plat
abbrev pub NotesGivePlats : Type 0
NotesGivePlats = (notes : FieldNotes) (plat : SurveyPlat) → IsPlatOf notes plat → IsPlat plat

-- a position has only one area over a denominator
abbrev pub OneArea : Type 0
OneArea = (plat : SurveyPlat) (section column row : ℕ) (area area' : Fraction)
    → column < POSITIONS_ACROSS → row < POSITIONS_ACROSS
    → IsPieceArea plat section column row area → IsPieceArea plat section column row area'
    → area.over ≡ area'.over → area ≡ area'

-- interpolating between the lines gives the formula's result
abbrev pub PieceIsFormula : Type 0
PieceIsFormula = (q : ClosingQuarters) (column row : ℕ) → column < POSITIONS_ACROSS → row < POSITIONS_ACROSS
    → IsSame (piece q column row) (formula q column row)

-- outside section 6, a piece is a whole number of units
abbrev pub PieceIsWhole : Type 0
PieceIsWhole = (plat : SurveyPlat) (section column row : ℕ) (q : ClosingQuarters)
    → IsPlat plat → AreClosingQuarters plat section q → section ≢ 6 → column < POSITIONS_ACROSS
    → row < POSITIONS_ACROSS
    → (units : ℕ) × IsSame (piece q column row) (whole units)

-- each piece is a whole number of parts of the plat's denominator: the division leaves no remainder
abbrev pub PieceIsOver : Type 0
PieceIsOver = (plat : SurveyPlat) (section column row : ℕ) (q : ClosingQuarters)
    → IsPlat plat → AreClosingQuarters plat section q → column < POSITIONS_ACROSS → row < POSITIONS_ACROSS
    → (units : ℕ) × IsSame (piece q column row) (ratio (pos units) (over_of plat))

-- the denominator is that of section 6
abbrev pub OverIsOfSectionSix : Type 0
OverIsOfSectionSix = (plat : SurveyPlat) (q : ClosingQuarters) → AreClosingQuarters plat 6 q
    → over_of plat ≡ divisor_of q
