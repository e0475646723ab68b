-- The account of a list of tracts by a lot table, as numbers.
use Rattle.std.specs.Prelude.{◌≡◌, ◌⊎◌, ℕ, ◌<◌, ◌≤◌, List, length, take, slice_index_or, Some}
use Rattle.std.specs.List.{SameFrom}
use Rattle.twp_grid.specs.Townships.{Designation}
use Rattle.twp_plat.specs.declared.lots.returned.ReturnedLots.{ReturnedLots}
use Rattle.twp_notes.specs.Records.{Fields, record_at}
use Rattle.twp_answers.specs.TractFaults.{verdict_of}
use Rattle.twp_answers.specs.Tracts.{IsTractList, name_in, tract_records}
use Rattle.twp_answers.specs.declared.account_figures.TractFigure.{TractFigure}
use Rattle.twp_answers.specs.declared.tract_fault.TractFault.{TractFault}
use Rattle.twp_answers.specs.declared.stop.Verdict.{Verdict}
use Rattle.twp_answers.specs.LotAccounts.{AreTractAcres, IsAccountByLots, IsTotalByLots}
use Rattle.twp_answers.specs.LotTractFaults.{IsFirstFaultByLots}
use Rattle.twp_calls.specs.Accounts.{tract_count}
use Rattle.twp_calls.specs.Answers.{accepted_acres, verdict_answer, with_text, without_room}
use Rattle.twp_calls.specs.Calls.{Answers}
use Rattle.twp_calls.specs.LotCalls.{ByLots}
use Rattle.twp_calls.specs.TractNames.{IsEnded}
use Rattle.twp_calls.specs.declared.account_call.TownshipTract.{TownshipTract}
use Rattle.twp_calls.specs.declared.answer.TownshipAnswer.{TownshipAnswer}
use Rattle.twp_calls.specs.declared.lots.TownshipLots.{TownshipLots as GivenLots}
use Rattle.twp_plat.specs.LotTables.{lots_of}

-- the tract of a record: its name, which zero bytes follow, and its hundredths of an acre by the table
pub record IsTractByLots (township : Designation) (lots : ReturnedLots) (fields : Fields)
    (given : TownshipTract) : Type 0 where
  pub name_is : take given.name_length given.name ≡ name_in fields
  pub ended : IsEnded given.name_length given.name
  pub acres : AreTractAcres township lots fields given.hundredths

-- The list is one of tracts, which were written at the front of the room, and nothing else was. The answer is
-- the total of their account, and their number.
pub record AreTractsPut (township : Designation) (lots : ReturnedLots) (list : List ℕ)
    (old new : List TownshipTract)
    (answer : TownshipAnswer) : Type 0 where
  pub list_is : IsTractList (lots_of lots) township list
  pub room : tract_count list ≤ length old
  pub length_is : length new ≡ length old
  pub each : (index : ℕ) (default : TownshipTract) → index < tract_count list
      → IsTractByLots township lots (record_at (tract_records list) index) (slice_index_or new index default)
  pub kept : SameFrom old new (tract_count list)
  pub total : ℕ
  pub total_is : IsTotalByLots township lots (tract_records list) total
  pub answer_is : answer ≡ with_text (accepted_acres total) (tract_count list)

-- the list has an account, but there is less room than it has tracts
pub record IsReportShortOfRoom (township : Designation) (lots : ReturnedLots) (list : List ℕ)
    (old : List TownshipTract)
    (answer : TownshipAnswer) : Type 0 where
  pub figures : List TractFigure
  pub total : ℕ
  pub account : IsAccountByLots township lots list figures total
  pub short : length old < tract_count list
  pub answer_is : answer ≡ without_room (accepted_acres total) (tract_count list)

-- the list has an account by the table, which was written, or for which there is no room
abbrev pub PutsAccountByLots : Designation → ReturnedLots → List ℕ → List TownshipTract → List TownshipTract
    → TownshipAnswer
    → Type 0
PutsAccountByLots township lots list old new answer =
    AreTractsPut township lots list old new answer ⊎ IsReportShortOfRoom township lots list old answer

-- the answer is the verdict on the first fault of the list by the table
pub record IsListRefusedByLots (township : Designation) (lots : ReturnedLots) (list : List ℕ)
    (answer : TownshipAnswer) : Type 0 where
  pub fault : TractFault
  pub first : IsFirstFaultByLots township lots list fault
  pub verdict : Verdict
  pub verdict_is : verdict_of fault ≡ Some verdict
  pub answer_is : answer ≡ verdict_answer verdict

-- `township_lots_report`: the account of the list by the table
abbrev pub IsLotsReportCall : GivenLots → List ℕ → List TownshipTract → List TownshipTract → TownshipAnswer
    → Type 0
IsLotsReportCall given list old new = ByLots given (λ township.
    Answers (PutsAccountByLots township given.lots list old new)
    (IsListRefusedByLots township given.lots list))
