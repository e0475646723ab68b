-- Plats as plain data, which may be a plat's parts or not.
use Rattle.std.specs.Prelude.{◌≡◌}
use Rattle.twp_plat.specs.Plats.{SurveyPlat, IsPlat}
use Rattle.twp_calls.specs.GivenTownships.{IsGivenTownship, code_of_north_south, code_of_east_west}
use Rattle.twp_calls.specs.declared.designation.TownshipDesignation.{TownshipDesignation}
use Rattle.twp_calls.specs.declared.plat.TownshipPlat.{TownshipPlat}

-- the parts of a plat
abbrev pub given_of : SurveyPlat → TownshipPlat
given_of plat = record {
  closing_quarters = plat.closing_quarters;
  number = plat.township.number;
  north_south = code_of_north_south plat.township.north_south;
  range = plat.township.range;
  east_west = code_of_east_west plat.township.east_west;
}

-- the designation among the parts of a plat
abbrev pub designation_in : TownshipPlat → TownshipDesignation
designation_in given = record {
  number = given.number;
  north_south = given.north_south;
  range = given.range;
  east_west = given.east_west;
}

-- the plat whose parts are given
pub record IsGivenPlat (given : TownshipPlat) (plat : SurveyPlat) : Type 0 where
  pub township : IsGivenTownship (designation_in given) plat.township
  pub closing : plat.closing_quarters ≡ given.closing_quarters
  pub is : IsPlat plat

-- no plat's parts are given
abbrev pub IsNoGivenPlat : TownshipPlat → Type 0
IsNoGivenPlat given = (plat : SurveyPlat) → ¬ IsGivenPlat given plat
