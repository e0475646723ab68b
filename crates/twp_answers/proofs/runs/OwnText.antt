-- A canonical text that is used as a description is its own canonical text, or is too long to be a
-- description.
use Rattle.std.proofs.Common.{ℕ, ◌<◌, ◌≤◌, ◌≢◌, List, length, refl, subst, sym, inl, inr}
use Rattle.twp_grid.specs.Lands.{no_places}
use Rattle.twp_grid.specs.Lands.{STANDARD_LOTS}
use Rattle.twp_grid.specs.Lands.{STANDARD_LAYOUT}
use Rattle.twp_land.specs.steps.StandardLots.{standard_are_lots}
use Rattle.twp_plat.specs.Plats.{SurveyPlat}
use Rattle.twp_read.specs.TextFaults.{TEXT_LIMIT}
use Rattle.twp_read.specs.declared.fault.TextFault.TheVariants as text_fault
use Rattle.twp_spell.specs.ReadBack.{IsTownshipLand, HasTownshipNumbers}
use Rattle.twp_resolve.proofs.DescribedLand.{names_some_place, is_of_township}
use Rattle.twp_spell.proofs.ReadBack.{read_back}
use Rattle.twp_read.proofs.FirstTextFaults.{too_large_first}
use Rattle.twp_answers.specs.Answers.{ArePlatted, refusal_line}
use Rattle.twp_answers.specs.NormalAnswers.{IsNormalForm, IsNormalAnswer}
use Rattle.twp_answers.specs.NormalLaws.{too_large}
use Rattle.twp_answers.specs.declared.stop.Verdict.TheVariants.{Accepted, Refused}

-- the numbers of the township in field notes are valid
township_numbers : (notes : List ℕ) (plat : SurveyPlat) → ArePlatted notes plat
    → HasTownshipNumbers plat.township
township_numbers notes plat platted =
    let named = platted.notes_are.records_are.township_is in
    subst HasTownshipNumbers (sym platted.plat_is.township_is) (named.number.1, named.range.1)

-- the text describes the same land, and is its canonical text
own_form : (notes d text : List ℕ) → IsNormalForm notes d text → length text ≤ TEXT_LIMIT
    → IsNormalForm notes text text
own_form notes d text form within =
    let township = form.plat.township in
    let described = form.land.described in
    let some : form.places ≢ no_places =
    names_some_place STANDARD_LAYOUT township described.read.tokens described.items form.places
    described.read.named
    standard_are_lots described.land in
    let land : IsTownshipLand STANDARD_LOTS form.places =
    is_of_township STANDARD_LAYOUT township described.read.tokens described.items form.places
    described.read.named standard_are_lots described.land in
    let again =
    read_back STANDARD_LOTS standard_are_lots township form.places text
    (township_numbers notes form.plat form.land.platted)
    land some form.text_is within in
    record {
      plat = form.plat;
      places = form.places;
      land = record {
        platted = form.land.platted;
        described = record { items = again.0; read = again.1; land = again.2 };
      };
      text_is = form.text_is;
    }

pub is_its_own : (notes d text : List ℕ) → IsNormalAnswer notes d text Accepted → length text ≤ TEXT_LIMIT
    → IsNormalAnswer notes text text Accepted
is_its_own notes d text form within = own_form notes d text form within

pub long_is_refused : (notes d text : List ℕ) → IsNormalAnswer notes d text Accepted
    → TEXT_LIMIT < length text
    → IsNormalAnswer notes text (refusal_line too_large) (Refused too_large)
long_is_refused notes d text form over = (
  inr (record {
    plat = form.plat;
    platted = form.land.platted;
    refused =
        inl
        (record {
          fault = text_fault.TooLarge;
          first = too_large_first text over;
          refusal_is = refl;
        });
  }),
  refl,
)
