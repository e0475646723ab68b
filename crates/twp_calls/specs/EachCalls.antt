-- The answer to each tract of a list, whatever is wrong with the others.
use Rattle.std.specs.Prelude.{◌≡◌, ◌⊎◌, ℕ, ◌<◌, ◌≤◌, List, length, take, slice_index_or, Some, Result, Ok}
use Rattle.std.specs.Prelude.{Err}
use Rattle.std.specs.List.{SameFrom}
use Rattle.twp_notes.specs.Records.{Fields, record_at}
use Rattle.twp_answers.specs.EachTract.{AnswersOnPlat, DescriptionAnswers, IsListFault, IsListOfRecords}
use Rattle.twp_answers.specs.EachTract.{IsOfTract}
use Rattle.twp_answers.specs.TractFaults.{verdict_of}
use Rattle.twp_answers.specs.Tracts.{IsTractRecord, name_in, tract_records}
use Rattle.twp_answers.specs.declared.tract_fault.TractFault.{TractFault}
use Rattle.twp_answers.specs.declared.stop.Verdict.{Verdict}
use Rattle.twp_calls.specs.Accounts.{tract_count}
use Rattle.twp_calls.specs.Answers.{ACCEPTED, NO_ROOM, accepted_acres, answer_of_fault, bare, verdict_answer}
use Rattle.twp_calls.specs.Answers.{with_text}
use Rattle.twp_calls.specs.Calls.{Answers, OnPlat}
use Rattle.twp_calls.specs.TractNames.{IsEnded}
use Rattle.twp_calls.specs.declared.answer.TownshipAnswer.{TownshipAnswer}
use Rattle.twp_calls.specs.declared.each_call.TownshipTractAnswer.{TownshipTractAnswer}
use Rattle.twp_calls.specs.declared.plat.TownshipPlat.{TownshipPlat}

-- the acres of a tract, or why it is refused
abbrev pub answer_of_tract : Result ℕ TractFault → TownshipAnswer
answer_of_tract (Ok hundredths) = accepted_acres hundredths
answer_of_tract (Err tract_fault) = answer_of_fault tract_fault

-- The answer to the tract at the index, whose description has such an answer, with its name; the name is
-- empty if the record is not a tract's.
pub record IsAnsweredAt (Has : DescriptionAnswers) (rows : List Fields) (index : ℕ)
    (given : TownshipTractAnswer)
    : Type 0 where
  pub own : Result ℕ TractFault
  pub own_is : IsOfTract Has rows index own
  pub answer_is : given.answer ≡ answer_of_tract own
  pub name_is : IsTractRecord (record_at rows index)
      → take given.name_length given.name ≡ name_in (record_at rows index)
  pub no_name : ¬ IsTractRecord (record_at rows index) → given.name_length ≡ 0
  pub ended : IsEnded given.name_length given.name

-- Each tract of the list was answered at the front of the room, and nothing else was written.
pub record AreTractsAnswered (Has : DescriptionAnswers) (list : List ℕ) (old new : List TownshipTractAnswer)
    (answer : TownshipAnswer) : Type 0 where
  pub room : tract_count list ≤ length old
  pub length_is : length new ≡ length old
  pub each : (index : ℕ) (default : TownshipTractAnswer) → index < tract_count list
      → IsAnsweredAt Has (tract_records list) index (slice_index_or new index default)
  pub kept : SameFrom old new (tract_count list)
  pub answer_is : answer ≡ with_text (bare ACCEPTED) (tract_count list)

-- there is less room than the list has tracts
pub record IsShortOfRoom (list : List ℕ) (old : List TownshipTractAnswer) (answer : TownshipAnswer)
    : Type 0 where
  pub short : length old < tract_count list
  pub answer_is : answer ≡ with_text (bare NO_ROOM) (tract_count list)

-- the list consists of a heading and records, which were answered, or for which there is no room
pub record HasAnswers (Has : DescriptionAnswers) (list : List ℕ) (old new : List TownshipTractAnswer)
    (answer : TownshipAnswer) : Type 0 where
  pub list_is : IsListOfRecords list
  pub put : AreTractsAnswered Has list old new answer ⊎ IsShortOfRoom list old answer

-- the answer is the verdict on the list as a whole
pub record IsWholeListRefused (list : List ℕ) (answer : TownshipAnswer) : Type 0 where
  pub fault : TractFault
  pub is : IsListFault list fault
  pub verdict : Verdict
  pub verdict_is : verdict_of fault ≡ Some verdict
  pub answer_is : answer ≡ verdict_answer verdict

-- `township_report_each`: the answer to each tract of the list
abbrev pub IsEachCall : TownshipPlat → List ℕ → List TownshipTractAnswer → List TownshipTractAnswer
    → TownshipAnswer → Type 0
IsEachCall given list old new = OnPlat given (λ plat.
    Answers (HasAnswers (AnswersOnPlat plat) list old new) (IsWholeListRefused list))
