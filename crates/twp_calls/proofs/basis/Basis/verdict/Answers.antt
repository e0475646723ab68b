-- Both are valid, or it is the verdict that any call answers.
use Rattle.std.proofs.Common.{◌≡◌, subst}
use Rattle.twp_calls.specs.Answers.{ACCEPTED, bare}
use Rattle.twp_calls.specs.steps.BasisSteps.{IsBasis}
use Rattle.twp_calls.proofs.BasisFacts.{answers_none, valid_verdict}
use Rattle.twp_calls.proofs.basis.Basis.verdict.Goals as goal

pub returns-in-Valid : goal.returns-in-Valid
returns-in-Valid c = λ given code is.
    let (given_is, account_is) = subst (IsBasis given code) c.in-Valid.is is in
    valid_verdict given code c.in-Valid.field-0 c.in-Valid.field-1 given_is account_is

pub returns-in-Invalid : goal.returns-in-Invalid
returns-in-Invalid c = λ given code is.
    answers_none (λ plat account answer. answer ≡ bare ACCEPTED) given code (bare c.in-Invalid.verdict)
    (subst (IsBasis given code) c.in-Invalid.is is)
