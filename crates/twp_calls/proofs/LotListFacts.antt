-- What is explained of a list by a lot table, or noted on it; over plain values.
use Rattle.std.proofs.Common.{◌≡◌, ℕ, List, Option, Some, None, Result, Ok, Err, IfSome}
use Rattle.std.proofs.Common.{ap, ◌∙◌, subst}
use Rattle.twp_grid.specs.Townships.{Designation}
use Rattle.twp_grid.specs.declared.refusal.Refusal.{Refusal}
use Rattle.twp_plat.specs.declared.lots.returned.ReturnedLots.{ReturnedLots}
use Rattle.twp_answers.specs.LotAccounts.{IsAccountByLots}
use Rattle.twp_answers.specs.LotTractFaults.{AnswersFaultByLots, IsFirstFaultByLots}
use Rattle.twp_answers.specs.TractFaults.{refusal_of}
use Rattle.twp_answers.specs.declared.account_figures.TractFigure.{TractFigure}
use Rattle.twp_answers.specs.declared.tract_fault.TractFault.{TractFault}
use Rattle.twp_explain.specs.declared.note.Note.{Note}
use Rattle.twp_calls.specs.Answers.{answer_of_fault, answer_of_verdict}
use Rattle.twp_calls.specs.Calls.{Answers, accepted, no_memory, refused_for}
use Rattle.twp_calls.specs.Explanations.{IsExplained, clear_list, noted_list}
use Rattle.twp_calls.specs.LotListExplanations.{IsExplainedFaultByLots, IsOfAccountByLots}
use Rattle.twp_calls.specs.LotListExplanations.{IsOfFirstFaultByLots}
use Rattle.twp_calls.specs.steps.Noting.{AnswersNoted}
use Rattle.twp_calls.specs.declared.answer.TownshipAnswer.{TownshipAnswer}
use Rattle.twp_calls.proofs.CallFacts.{refused_by}

-- a list that is accepted, and its note
pub noted_list_by : {E : Type 0} (Refused : TownshipAnswer → Type 0) (township : Designation)
    (lots : ReturnedLots) (list old new : List ℕ) (answer : TownshipAnswer) (figures : List TractFigure)
    (total : ℕ) (explained : Result (Option Note) E)
    → IsAccountByLots township lots list figures total → AnswersNoted explained old new answer
    → Answers (IsOfAccountByLots township lots list old new) Refused answer
noted_list_by Refused township lots list old new answer figures total (Ok (Some note)) has is =
    accepted (record { figures = figures; total = total; has = has; is_noted = noted_list note is })
noted_list_by Refused township lots list old new answer figures total (Ok None) has is =
    accepted (record { figures = figures; total = total; has = has; is_noted = clear_list is })
noted_list_by Refused township lots list old new answer figures total (Err fault) has is = no_memory is

-- a list that is refused, and the explanation of its first fault
pub explained_list_by : (township : Designation) (lots : ReturnedLots) (list old new : List ℕ)
    (explained answer : TownshipAnswer) (is : TractFault) (refusal : Refusal)
    → refusal_of is ≡ Some refusal → AnswersFaultByLots township lots list is
    → explained ≡ answer_of_fault is
    → IsExplained (IsOfFirstFaultByLots township lots list) explained old new answer
    → Answers (IsOfAccountByLots township lots list old new)
    (IsExplainedFaultByLots township lots list old new) answer
explained_list_by township lots list old new explained answer is refusal same first explained_is put =
    let known = refused_by is refusal same in
    refused_for (record {
      fault = is;
      first =
          subst (λ found. IfSome found (λ verdict. IsFirstFaultByLots township lots list is)) known.1 first;
      verdict = known.0;
      verdict_is = known.1;
      explained =
          subst (λ explained. IsExplained (IsOfFirstFaultByLots township lots list) explained old new answer)
          (explained_is ∙ ap answer_of_verdict known.1) put;
    })
