-- The area of all tracts together, and of the land outside them.
use Rattle.std.proofs.Common.{◌≡◌, ℕ, ◌+◌, ◌-◌, ◌*◌, ◌≤◌, ◌||◌, ◌&&◌, not, Bool, true, false, ap}
use Rattle.std.proofs.Common.{refl, sym, ◌∙◌, subst, arith}
use Rattle.twp_measure.specs.Areas.{Fraction}
use Rattle.twp_grid.specs.Places.{PLACE_DIGITS}
use Rattle.twp_grid.proofs.TotalFacts.{total-all_zero}
use Rattle.twp_grid.specs.Lands.{no_places, union, SharePlace}
use Rattle.twp_plat.specs.Plats.{SurveyPlat}
use Rattle.twp_plat.specs.Pieces.{over_of}
use Rattle.twp_plat.specs.Pieces.{ArePieces}
use Rattle.twp_plat.specs.steps.Bounds.{OF_POSITION}
use Rattle.twp_plat.specs.LandAreas.{section_sum, township_sum, IsLandArea}
use Rattle.twp_plat.specs.LandAreaLaws.{township_places}
use Rattle.twp_answers.specs.ReportAnswers.{other_places}
use Rattle.twp_answers.specs.steps.TractTaking.{AreTotals, TakesArea}
use Rattle.twp_answers.specs.declared.totals.Totals.{Totals}
use Rattle.twp_plat.proofs.AreaLaws.{disjoint_areas_add, rest_within, is_place_of}
use Rattle.twp_plat.proofs.WholeAreas.{section_none}

-- without places there is no area
pub no_area : (plat : SurveyPlat) (pieces : ℕ → ℕ → ℕ → ℕ) → ArePieces plat pieces
    → IsLandArea PLACE_DIGITS plat no_places (record { units = 0; over = over_of plat })
no_area plat pieces are =
    let sum : township_sum PLACE_DIGITS pieces no_places ≡ 0 =
    total-all_zero 36 (λ before. section_sum PLACE_DIGITS (pieces (before + 1)) (no_places (before + 1)))
    (λ before _.
    section_none (pieces (before + 1)) (no_places (before + 1)) (λ column row. refl)) in
    record { pieces = pieces; are = are; over_is = refl; sum_is = sym sum }

-- if no place is taken, all remain
pub all_left : other_places no_places ≡ township_places PLACE_DIGITS
all_left = λ i section column row. same (township_places PLACE_DIGITS section column row) i
  where
    same : (t : Bool) → (t && not false) ≡ t
    same true = refl
    same false = refl

-- the rest of the rest
left_of_left : (places more : ℕ → ℕ → ℕ → Bool)
    → (λ section column row. other_places places section column row && not (more section column row))
    ≡ other_places (union places more)
left_of_left places more = λ i section column row.
    same (township_places PLACE_DIGITS section column row) (places section column row)
    (more section column row) i
  where
    same : (t a b : Bool) → ((t && not a) && not b) ≡ (t && not (a || b))
    same true true b = refl
    same true false b = refl
    same false a b = refl

-- land that shares no place with the tracts so far is no larger than the remaining land, and leaves
-- the rest of it
pub taken_from : (plat : SurveyPlat) (places more : ℕ → ℕ → ℕ → Bool) (area rest : Fraction)
    → ¬ SharePlace places more
    → IsLandArea PLACE_DIGITS plat more area → IsLandArea PLACE_DIGITS plat (other_places places) rest
    → (area.units ≤ rest.units) × IsLandArea PLACE_DIGITS plat (other_places (union places more)) (record {
      units = rest.units - area.units;
      over = rest.over;
    })
taken_from plat places more area rest apart is left =
    let less =
    rest_within PLACE_DIGITS (omega arith) plat (other_places places) more area rest
    (λ section column row range in_column in_row held.
    other (township_places PLACE_DIGITS section column row) (places section column row)
    (is_place_of PLACE_DIGITS section column row range in_column in_row)
    (λ there.
    apart (record { section = section; column = column; row = row; in_first = there; in_second = held })))
    is left in (
      less.0,
      subst (λ p. IsLandArea PLACE_DIGITS plat p (record {
        units = rest.units - area.units;
        over = rest.over;
      })) (left_of_left places more) less.1,
    )
  where
    other : (t a : Bool) → t ≡ true → (a ≡ true → ⊥) → (t && not a) ≡ true
    other true true is not_there = absurd (not_there refl)
    other true false is not_there = refl
    other false a is not_there = cc is

-- the figures without tracts
pub totals_none : (plat : SurveyPlat) (totals : Totals) → totals.total.units ≡ 0
    → totals.total.over ≡ over_of plat
    → IsLandArea PLACE_DIGITS plat (township_places PLACE_DIGITS) totals.remaining
    → AreTotals plat no_places totals
totals_none plat totals none over_is all =
    let zero_area = no_area plat all.pieces all.are in
    record {
      total_is = record {
        pieces = all.pieces;
        are = all.are;
        over_is = over_is;
        sum_is = ap (λ u. OF_POSITION * u) none ∙ zero_area.sum_is;
      };
      remaining_is = subst (λ p. IsLandArea PLACE_DIGITS plat p totals.remaining) (sym all_left) all;
    }

-- the figures after adding land that shares no place with the land before it
pub totals_next : (plat : SurveyPlat) (places more : ℕ → ℕ → ℕ → Bool) (old new : Totals) (area : Fraction)
    → ¬ SharePlace places more
    → IsLandArea PLACE_DIGITS plat more area → AreTotals plat places old → TakesArea area old new
    → AreTotals plat (union places more) new
totals_next plat places more old new area apart is are takes =
    let sum =
    disjoint_areas_add PLACE_DIGITS (omega arith) plat places more old.total area
    (λ section column row there here.
    apart (record { section = section; column = column; row = row; in_first = there; in_second = here }))
    are.total_is is in
    let rest = taken_from plat places more area old.remaining apart is are.remaining_is in
    record {
      total_is = record {
        pieces = sum.pieces;
        are = sum.are;
        over_is = takes.total_over ∙ sum.over_is;
        sum_is = ap (λ u. OF_POSITION * u) takes.total_is ∙ sum.sum_is;
      };
      remaining_is = record {
        pieces = rest.1.pieces;
        are = rest.1.are;
        over_is = takes.remaining_over ∙ rest.1.over_is;
        sum_is = ap (λ u. OF_POSITION * u) takes.remaining_is ∙ rest.1.sum_is;
      };
    }
