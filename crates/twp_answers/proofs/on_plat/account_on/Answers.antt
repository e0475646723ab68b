-- A list with too many bytes is refused for that.
use Rattle.twp_answers.proofs.FirstTractFaults.{large_first}
use Rattle.twp_answers.proofs.on_plat.account_on.Goals as goal
use Rattle.twp_grid.specs.Lands.{STANDARD_LOTS}

pub returns-then-list-clause-fault : goal.returns-then-list-clause-fault
returns-then-list-clause-fault c =
    large_first STANDARD_LOTS c.args.plat.now.township c.args.list.now c.if-list.true
