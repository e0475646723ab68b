use Rattle.twp_plat.proofs.lots.IndexFacts.{before_is}
use Rattle.twp_plat.proofs.lots.table.lots_before.Goals as goal

pub returns-clause-before : goal.returns-clause-before
returns-clause-before c =
    let at = c.number.ensures in
    rw (c.from.ensures, at.value) (before_is c.args.section (rw at.value at at.range))
