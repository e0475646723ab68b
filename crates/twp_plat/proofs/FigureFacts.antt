-- A lot has only one figure.
use Rattle.std.proofs.Common.{◌≡◌, ℕ, Some, subst, sym, ◌∙◌}
use Rattle.twp_measure.proofs.RoundingFacts.{one_rounding}
use Rattle.twp_grid.specs.Lots.{IsPosition, position_of_lot}
use Rattle.twp_plat.specs.Plats.{SurveyPlat}
use Rattle.twp_plat.specs.LotFigures.{IsLotFigure, IsFigureOfLot}
use Rattle.twp_plat.proofs.OneAnswer.{one_area}

-- a position has only one figure
pub same_figure : (plat : SurveyPlat) (section column row h h' : ℕ) → IsPosition column row
    → IsLotFigure plat section column row h → IsLotFigure plat section column row h' → h ≡ h'
same_figure plat section column row h h' inside is is' =
    let same : is.area ≡ is'.area =
    one_area plat section column row is.area is'.area inside.0 inside.1 is.piece_is is'.piece_is
    (is.over_is ∙ sym is'.over_is) in
    one_rounding is'.area h h' (rw same at is.rounded) is'.rounded

-- so does a lot, because it fills one position
pub same_figure_of_lot : (plat : SurveyPlat) (section lot h h' : ℕ) (p : ℕ × ℕ) → IsPosition p.0 p.1
    → position_of_lot section lot ≡ Some p → IsLotFigure plat section p.0 p.1 h
    → IsFigureOfLot plat section lot h' → h ≡ h'
same_figure_of_lot plat section lot h h' p inside there is is' =
    let place : ℕ × ℕ = (is'.column, is'.row) in
    let same : place ≡ p = cc (sym is'.position_is ∙ there) in
    let P : ℕ × ℕ → Type 0 = λ q. IsLotFigure plat section q.0 q.1 h' in
    same_figure plat section p.0 p.1 h h' inside is (subst P same is'.figure_is)
