-- The laws of land that callers keep.
use Rattle.std.proofs.Common.{◌≡◌, subst}
use Rattle.twp_grid.specs.Places.{PLACE_DIGITS}
use Rattle.twp_grid.specs.Lands.{STANDARD_LOTS}
use Rattle.twp_land.specs.steps.StandardLots.{standard_are_lots}
use Rattle.twp_plat.specs.PlatAccounts.{IsAreaBy}
use Rattle.twp_spell.proofs.ReadBack.{read_back}
use Rattle.twp_answers.specs.OnLandLaws.{AcresOnAreOfLand, TextOfLandIsItsDescription}
use Rattle.twp_answers.proofs.OneAnswer.{one_land}

pub acres_on_are_of_land : AcresOnAreOfLand
acres_on_are_of_land plat description account places hundredths is = (
  λ has.
      let same : has.area_is.places ≡ places =
      one_land STANDARD_LOTS plat.township description has.area_is.places places has.area_is.described
      is.described in
      record {
        area = has.area;
        area_is =
            subst (λ p. IsAreaBy account PLACE_DIGITS plat p has.area) same has.area_is.area_is;
        rounded = has.rounded;
      },
  λ are. record {
    area = are.area;
    area_is = record { places = places; described = is.described; area_is = are.area_is };
    rounded = are.rounded;
  },
)

pub text_of_land_is_its_description : TextOfLandIsItsDescription
text_of_land_is_its_description township places text numbers land some is within =
    let again = read_back STANDARD_LOTS standard_are_lots township places text numbers land some is within in
    record {
      described = record { items = again.0; read = again.1; land = again.2 };
      whole = land.whole_lots;
    }
