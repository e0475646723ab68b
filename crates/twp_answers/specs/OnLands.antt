-- The land that a description names in a township, and its area and its hundredths of an acre on a
-- plat, for callers that keep the land.
use Rattle.std.specs.Prelude.{ℕ, List, Bool, Result, Ok, Err}
use Rattle.twp_measure.specs.Areas.{Fraction, IsRounded}
use Rattle.twp_grid.specs.Places.{PLACE_DIGITS}
use Rattle.twp_grid.specs.Townships.{Designation}
use Rattle.twp_grid.specs.Lands.{HasWholeLots, Lotting}
use Rattle.twp_plat.specs.Plats.{SurveyPlat}
use Rattle.twp_plat.specs.PlatAccounts.{IsAreaBy}
use Rattle.twp_plat.specs.declared.land_area.Account.{Account}
use Rattle.twp_answers.specs.Answers.{Describe}
use Rattle.twp_answers.specs.OnPlats.{StopsOn}
use Rattle.twp_answers.specs.declared.stop.Stop.{Stop}

-- the bytes describe this land in the township; it contains each lot wholly or not at all
pub record IsLandOf (lots : Lotting) (township : Designation) (description : List ℕ)
    (places : ℕ → ℕ → ℕ → Bool) : Type 0 where
  pub described : Describe lots township description places
  pub whole : HasWholeLots lots places

-- the answer for the bytes in the township, or why there is none
abbrev pub AnswersIn : {T : Type 0} → (T → Type 0) → Lotting → Designation → List ℕ → Result T Stop
    → Type 0
AnswersIn Has lots township description (Ok answer) = Has answer
AnswersIn Has lots township description (Err stopped) = StopsOn lots township description stopped

-- these are the hundredths of an acre of the land on the plat, by the account: its area, rounded
-- once, half up
pub record AreAcresOf (plat : SurveyPlat) (account : Account) (places : ℕ → ℕ → ℕ → Bool)
    (hundredths : ℕ) : Type 0 where
  pub area : Fraction
  pub area_is : IsAreaBy account PLACE_DIGITS plat places area
  pub rounded : IsRounded area hundredths
