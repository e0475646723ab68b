-- What the call that explains lists by a lot table answers, for all that it can be given.
use Rattle.std.specs.Prelude.{◌≡◌, ℕ, List, Some}
use Rattle.twp_grid.specs.Townships.{Designation}
use Rattle.twp_grid.specs.declared.refusal.Refusal.{Refusal}
use Rattle.twp_plat.specs.declared.lots.returned.ReturnedLots.{ReturnedLots}
use Rattle.twp_answers.specs.LotAccounts.{IsAccountByLots}
use Rattle.twp_answers.specs.LotTractFaults.{IsFirstFaultByLots}
use Rattle.twp_answers.specs.TractFaults.{refusal_of, verdict_of}
use Rattle.twp_answers.specs.declared.account_figures.TractFigure.{TractFigure}
use Rattle.twp_answers.specs.declared.tract_fault.TractFault.{TractFault}
use Rattle.twp_answers.specs.declared.stop.Verdict.{Verdict}
use Rattle.twp_calls.specs.Answers.{verdict_answer}
use Rattle.twp_calls.specs.Calls.{Answers}
use Rattle.twp_calls.specs.Explanations.{IsExplained, IsListNoted}
use Rattle.twp_calls.specs.LotCalls.{ByLots}
use Rattle.twp_calls.specs.declared.answer.TownshipAnswer.{TownshipAnswer}
use Rattle.twp_calls.specs.declared.lots.TownshipLots.{TownshipLots as GivenLots}

-- of a list that has an account by the table, there may be a note
pub record IsOfAccountByLots (township : Designation) (lots : ReturnedLots) (list old new : List ℕ)
    (answer : TownshipAnswer) : Type 0 where
  pub figures : List TractFigure
  pub total : ℕ
  pub has : IsAccountByLots township lots list figures total
  pub is_noted : IsListNoted old new answer

-- the refusal is that of the first fault of the list by the table
pub record IsOfFirstFaultByLots (township : Designation) (lots : ReturnedLots) (list : List ℕ)
    (refusal : Refusal) : Type 0 where
  pub fault : TractFault
  pub first : IsFirstFaultByLots township lots list fault
  pub refusal_is : refusal_of fault ≡ Some refusal

-- the refusal of that fault is explained
pub record IsExplainedFaultByLots (township : Designation) (lots : ReturnedLots) (list old new : List ℕ)
    (answer : TownshipAnswer) : Type 0 where
  pub fault : TractFault
  pub first : IsFirstFaultByLots township lots list fault
  pub verdict : Verdict
  pub verdict_is : verdict_of fault ≡ Some verdict
  pub explained :
      IsExplained (IsOfFirstFaultByLots township lots list) (verdict_answer verdict) old new answer

-- `township_lots_explain_list`
abbrev pub ExplainsListByLots : GivenLots → List ℕ → List ℕ → List ℕ → TownshipAnswer → Type 0
ExplainsListByLots given list old new = ByLots given (λ township.
    Answers (IsOfAccountByLots township given.lots list old new)
    (IsExplainedFaultByLots township given.lots list old new))
