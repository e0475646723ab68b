-- The figures of a plat, at their places; over plain values.
use Rattle.std.proofs.Common.{◌≡◌, ◌↔◌, ℕ, ◌+◌, ◌-◌, ◌/◌, ◌%◌, ◌<◌, ◌≤◌, List, length, get_or, set}
use Rattle.std.proofs.Common.{Option, Some, None, refl, ap, subst, ◌∙◌, arith, below_more}
use Rattle.std.specs.Prelude.{IsSome, unwrap_or}
use Rattle.std.specs.Option.{SomeIff}
use Rattle.std.proofs.lemmas.List.{get_or-set_same, get_or-set_other}
use Rattle.twp_measure.specs.Areas.{Fraction, IsRounded}
use Rattle.twp_grid.specs.Finding.{Finds}
use Rattle.twp_grid.specs.Winding.{IsSection}
use Rattle.twp_grid.specs.Lots.{number_of_lots}
use Rattle.twp_plat.specs.Plats.{SurveyPlat, IsPlat}
use Rattle.twp_plat.specs.Pieces.{IsSectionArea, IsTownshipArea}
use Rattle.twp_plat.specs.LotFigures.{IsFigureOfLot}
use Rattle.twp_plat.specs.PlatFigures.{PlatFigures, AreFigures}
use Rattle.twp_plat.proofs.PlatFigureFacts.{plat_figures, same_lot, same_section, same_township}
use Rattle.twp_calls.specs.Figures.{LOTS_MOST, IsLotOrNone, AreNumbersOf, ShowsFigures, place_of_lot}
use Rattle.twp_calls.specs.declared.figures.TownshipPlatFigures.{TownshipPlatFigures}
use Rattle.twp_calls.specs.steps.Filling.{AreLotsTo, AreSectionsTo, IsOfPlace}

-- the section with a number has this number
pub section_is : (number section : ℕ) (found : Option ℕ) → SomeIff found (IsSection number) number
    → found ≡ Some section → section ≡ number
section_is number section found is there = (rw there at is).1

-- ---- one more place is filled

pub lots_next : (shown : PlatFigures) (lots : List ℕ) (count place hundredths : ℕ) → place ≡ count
    → count < length lots → AreLotsTo shown count lots → IsOfPlace shown count hundredths
    → AreLotsTo shown (count + 1) (set lots place hundredths)
lots_next shown lots count place hundredths is within before here =
    below_more _ _
    (λ i below.
    rw (get_or-set_other lots place i hundredths 0 (λ same. absurd (omega arith))) (before i below))
    (rw (is, get_or-set_same lots count hundredths 0 within) here)

pub sections_next : (shown : PlatFigures) (sections : List ℕ) (count place hundredths : ℕ) → place ≡ count
    → count < length sections → AreSectionsTo shown count sections
    → hundredths ≡ shown.sections (count + 1)
    → AreSectionsTo shown (count + 1) (set sections place hundredths)
sections_next shown sections count place hundredths is within before here =
    below_more _ _
    (λ i below.
    rw (get_or-set_other sections place i hundredths 0 (λ same. absurd (omega arith))) (before i below))
    (rw (is, get_or-set_same sections count hundredths 0 within) here)

-- ---- the figure of one place

pub lot_or_none : (plat : SurveyPlat) (shown : PlatFigures) (section number : ℕ) (found : Option ℕ)
    → AreFigures plat shown → IsSection section → 1 ≤ number
    → Finds found (IsFigureOfLot plat section number)
    → IsSome found ↔ ((1 ≤ number) × (number ≤ number_of_lots section))
    → IsLotOrNone shown section number (unwrap_or found 0)
lot_or_none plat shown section number (Some hundredths) are range least finds has = record {
  lot = λ first last. same_lot plat shown section number hundredths range are finds.0;
  none = λ above. absurd (let within : number ≤ number_of_lots section = (has.0 refl).1 in omega arith);
}
lot_or_none plat shown section number None are range least finds has = record {
  lot = λ first last. cc (has.1 (first, last));
  none = λ above. refl;
}

pub section_figure : (plat : SurveyPlat) (shown : PlatFigures) (section hundredths : ℕ) (area : Fraction)
    → AreFigures plat shown → IsSection section → IsSectionArea plat section area → IsRounded area hundredths
    → hundredths ≡ shown.sections section
section_figure plat shown section hundredths area are range area_is rounded =
    same_section plat section hundredths (shown.sections section) area range area_is rounded
    (are.sections section range)

-- ---- all of them

-- a lot's place, taken apart
of_place : (section number : ℕ) → IsSection section → 1 ≤ number → number ≤ LOTS_MOST
    → (place_of_lot section number < 252) × (place_of_lot section number / LOTS_MOST + 1 ≡ section)
    × (place_of_lot section number % LOTS_MOST + 1 ≡ number)
of_place section number range least most = (omega arith, omega arith, omega arith)

numbers_of : (shown : PlatFigures) (figures : TownshipPlatFigures) → AreLotsTo shown 252 figures.lots
    → AreSectionsTo shown 36 figures.sections → figures.township ≡ shown.township
    → AreNumbersOf shown figures
numbers_of shown figures lots sections township = record {
  lots = λ section number range least most.
      let at = of_place section number range least most in
      subst
      (λ s. IsLotOrNone shown s number (get_or figures.lots (place_of_lot section number) 0)) at.1
      (subst (λ n. IsLotOrNone shown (place_of_lot section number / LOTS_MOST + 1) n
      (get_or figures.lots (place_of_lot section number) 0)) at.2
      (lots (place_of_lot section number) at.0));
  sections = λ section range.
      sections (section - 1) (omega arith) ∙ ap shown.sections (omega arith);
  township = township;
}

pub shows : (plat : SurveyPlat) (figures : TownshipPlatFigures) (area : Fraction) → IsPlat plat
    → ((shown : PlatFigures) → AreFigures plat shown → AreLotsTo shown 252 figures.lots)
    → ((shown : PlatFigures) → AreFigures plat shown → AreSectionsTo shown 36 figures.sections)
    → IsTownshipArea plat area → IsRounded area figures.township → ShowsFigures plat figures
shows plat figures area is lots sections area_is rounded =
    let (shown, are) = plat_figures plat is in
    record {
      shown = shown;
      are = are;
      numbers =
          numbers_of shown figures (lots shown are) (sections shown are)
          (same_township plat figures.township shown.township area area_is rounded are.township);
    }
