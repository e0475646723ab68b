-- Laws of land that callers keep.
use Rattle.std.specs.Prelude.{◌≢◌, ◌≤◌, ◌↔◌, ℕ, List, Bool, length}
use Rattle.twp_grid.specs.Townships.{Designation}
use Rattle.twp_grid.specs.Lands.{no_places}
use Rattle.twp_grid.specs.Lands.{STANDARD_LOTS}
use Rattle.twp_plat.specs.Plats.{SurveyPlat}
use Rattle.twp_plat.specs.declared.land_area.Account.{Account}
use Rattle.twp_read.specs.TextFaults.{TEXT_LIMIT}
use Rattle.twp_spell.specs.ReadBack.{IsTownshipLand, HasTownshipNumbers}
use Rattle.twp_spell.specs.CanonicalText.{IsCanonicalText}
use Rattle.twp_answers.specs.OnPlats.{HasAcresOn}
use Rattle.twp_answers.specs.OnLands.{IsLandOf, AreAcresOf}

-- the acres of a description on a plat are those of its land
abbrev pub AcresOnAreOfLand : Type 0
AcresOnAreOfLand = (plat : SurveyPlat) (description : List ℕ) (account : Account)
    (places : ℕ → ℕ → ℕ → Bool) (hundredths : ℕ) → IsLandOf STANDARD_LOTS plat.township description places
    → HasAcresOn plat description account hundredths
    ↔ AreAcresOf plat account places hundredths

-- the canonical text of land, if the land is not empty and the text is no longer than descriptions
-- can be, is a description of that land
abbrev pub TextOfLandIsItsDescription : Type 0
TextOfLandIsItsDescription = (township : Designation) (places : ℕ → ℕ → ℕ → Bool)
    (text : List ℕ) → HasTownshipNumbers township → IsTownshipLand STANDARD_LOTS places
    → places ≢ no_places → IsCanonicalText STANDARD_LOTS township places text
    → length text ≤ TEXT_LIMIT → IsLandOf STANDARD_LOTS township text places
