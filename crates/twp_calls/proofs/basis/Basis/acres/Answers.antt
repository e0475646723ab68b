-- The description is accepted or refused, or memory ran out; or there is no plat or no account.
use Rattle.std.proofs.Common.{subst, sym}
use Rattle.twp_grid.specs.Lands.{STANDARD_LOTS}
use Rattle.twp_answers.specs.Answers.{IsNoDescription}
use Rattle.twp_calls.specs.Answers.{bare}
use Rattle.twp_calls.specs.Calls.{Answers, AnswersAcres, IsAcresCall, IsRefusedFor}
use Rattle.twp_calls.specs.steps.BasisSteps.{IsBasis}
use Rattle.twp_calls.proofs.BasisFacts.{accepted_by, answers_none, stopped_by}
use Rattle.twp_calls.proofs.basis.Basis.acres.Goals as goal

pub returns-in-Invalid : goal.returns-in-Invalid
returns-in-Invalid c = λ given code is.
    subst (IsAcresCall given c.args.description.now code) (sym c.bare.ensures)
    (answers_none (λ plat account. Answers (AnswersAcres plat c.args.description.now account)
    (IsRefusedFor (IsNoDescription STANDARD_LOTS plat.township c.args.description.now)))
    given code (bare c.in-Invalid.verdict) (subst (IsBasis given code) c.in-Invalid.is is))

pub returns-in-Ok : goal.returns-in-Ok
returns-in-Ok c = λ given code is.
    let (given_is, account_is) = subst (IsBasis given code) c.in-Valid.is is in
    accepted_by given c.in-Valid.plat c.args.description.now code c.in-Valid.account c.in-Ok.hundredths
    c.of_acres.result given_is account_is c.in-Ok.ensures c.of_acres.ensures

pub returns-in-Err : goal.returns-in-Err
returns-in-Err c = λ given code is.
    let (given_is, account_is) = subst (IsBasis given code) c.in-Valid.is is in
    stopped_by given c.in-Valid.plat c.args.description.now code c.in-Valid.account c.in-Err.stop
    c.of_stop.result given_is account_is c.in-Err.ensures c.of_stop.ensures
