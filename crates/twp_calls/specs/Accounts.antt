-- The account of a list of tracts, as numbers: written out, they are the text of `township_report`.
use Rattle.std.specs.Prelude.{◌≡◌, ◌⊎◌, ℕ, ◌<◌, ◌≤◌, List, ◌++◌, length, take}
use Rattle.std.specs.List.{All, SameFrom, flat_map}
use Rattle.twp_plat.specs.Plats.{SurveyPlat}
use Rattle.twp_answers.specs.ReportAnswers.{IsAccountOf, tract_line, total_lines}
use Rattle.twp_answers.specs.Tracts.{IsTractList, tract_records}
use Rattle.twp_calls.specs.Answers.{ACCEPTED, NO_ROOM, bare, with_text}
use Rattle.twp_calls.specs.Calls.{Answers, IsRefusedList, OnPlat}
use Rattle.twp_calls.specs.TractNames.{IsEnded}
use Rattle.twp_calls.specs.declared.account_call.TownshipTotals.{TownshipTotals}
use Rattle.twp_calls.specs.declared.account_call.TownshipTract.{TownshipTract}
use Rattle.twp_calls.specs.declared.answer.TownshipAnswer.{TownshipAnswer}
use Rattle.twp_calls.specs.declared.plat.TownshipPlat.{TownshipPlat}
use Rattle.twp_grid.specs.Lands.{STANDARD_LOTS}

-- the line of a tract in the text of an account
abbrev pub line_of : TownshipTract → List ℕ
line_of tract = tract_line (take tract.name_length tract.name) tract.hundredths

-- the text of an account with these figures
abbrev pub account_text : List TownshipTract → TownshipTotals → List ℕ
account_text tracts totals = flat_map line_of tracts ++ total_lines totals.total totals.remaining

-- the number of tracts in a list
abbrev pub tract_count : List ℕ → ℕ
tract_count list = length (tract_records list)

-- the tract's name is followed by zero bytes alone
abbrev pub HasEndedName : TownshipTract → Type 0
HasEndedName tract = IsEnded tract.name_length tract.name

-- The figures of the account were written at the front of the room, and nothing else.
pub record AreFiguresPut (plat : SurveyPlat) (list : List ℕ) (old new : List TownshipTract)
    (totals : TownshipTotals) (answer : TownshipAnswer) : Type 0 where
  pub room : tract_count list ≤ length old
  pub length_is : length new ≡ length old
  pub account : IsAccountOf plat list (account_text (take (tract_count list) new) totals)
  pub ended : All HasEndedName (take (tract_count list) new)
  pub kept : SameFrom old new (tract_count list)
  pub answer_is : answer ≡ with_text (bare ACCEPTED) (tract_count list)

-- the list has an account, but there is less room than it has tracts
pub record HasNoRoom (plat : SurveyPlat) (list : List ℕ) (old : List TownshipTract)
    (answer : TownshipAnswer) : Type 0 where
  pub list_is : IsTractList STANDARD_LOTS plat.township list
  pub short : length old < tract_count list
  pub answer_is : answer ≡ with_text (bare NO_ROOM) (tract_count list)

-- the list has an account, whose figures were written, or for which there is no room
abbrev pub AnswersAccount : SurveyPlat → List ℕ → List TownshipTract → List TownshipTract → TownshipTotals
    → TownshipAnswer → Type 0
AnswersAccount plat list old new totals answer =
    AreFiguresPut plat list old new totals answer ⊎ HasNoRoom plat list old answer

-- `township_account`: the figures of the account of the list
abbrev pub IsAccountCall : TownshipPlat → List ℕ → List TownshipTract → List TownshipTract → TownshipTotals
    → TownshipAnswer → Type 0
IsAccountCall given list old new totals = OnPlat given (λ plat.
    Answers (AnswersAccount plat list old new totals) (IsRefusedList plat list))
