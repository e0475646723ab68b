-- The fault that is explained is the list's first; where there is none, the list has an account.
use Rattle.std.proofs.Common.{IfSome, subst}
use Rattle.twp_answers.specs.TractFaults.{IsFirstTractFault}
use Rattle.twp_explain.proofs.on_plat.explain_tracts.Goals as goal
use Rattle.twp_grid.specs.Lands.{STANDARD_LOTS}

pub returns-in_default-clause-none : goal.returns-in_default-clause-none
returns-in_default-clause-none g c = λ none. c.in_ok-fault.ensures.none c.in_default.is

pub returns-clause-first : goal.returns-clause-first
returns-clause-first g c =
    subst
    (λ found.
    IfSome found (IsFirstTractFault STANDARD_LOTS c.args.plat.now.township c.args.tracts.now.bytes.now))
    c.in-Some.is c.in_ok-fault.ensures.first
