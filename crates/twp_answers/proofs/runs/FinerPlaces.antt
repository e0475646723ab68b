-- If each place is divided into four, descriptions of land keep their meaning.
use Rattle.std.proofs.Common.{◌*◌, refl, arith}
use Rattle.twp_plat.specs.PlatAccounts.{IsNominalShare}
use Rattle.twp_plat.proofs.FinerAreas.{position_of_four, same_area, same_plat_area, township_of_four}
use Rattle.twp_grammar.proofs.FinerItems.{on_plat_finer, land_finer}
use Rattle.twp_spell.proofs.FinerTexts.{same_text}
use Rattle.twp_answers.specs.FinerPlaces.{FinerPlacesKeepAll, FinerPlacesKeepPlatAreas, ThirtySecondsKeepAll}
use Rattle.twp_answers.specs.FinerPlaces.{DIGITS_OF_A_THIRTY_SECOND}

pub keep_all : FinerPlacesKeepAll
keep_all g fits = record {
  on_plat = λ township items on. on_plat_finer g township items fits on;
  land = λ township items places land. land_finer g township items places fits land;
  sums = λ pieces places. township_of_four g pieces places fits;
  places_are_four = position_of_four g fits;
  area = λ plat places area. same_area g plat places area fits;
  text = λ township places text. same_text g township places text fits;
}

pub keep_plat_areas : FinerPlacesKeepPlatAreas
keep_plat_areas g share fits whole plat places area = same_plat_area g share plat places area fits whole

-- the nominal share of a place of 5/8 of an acre: its 2.5 by 2.5 chains
share_is : IsNominalShare DIGITS_OF_A_THIRTY_SECOND (2500 * 2500)
share_is = refl

pub thirty_seconds : ThirtySecondsKeepAll
thirty_seconds = (keep_all 4 (omega arith), keep_plat_areas 4 (2500 * 2500) (omega arith) share_is)
