use Rattle.std.proofs.Common.{arith}
use Rattle.twp_plat.proofs.lots.IndexFacts.{end_is}
use Rattle.twp_plat.proofs.lots.table.lot_index.Goals as goal

pub returns-clause-below : goal.returns-clause-below
returns-clause-below c =
    let end = end_is c.args.section c.lot_count.ensures.section in
    omega
    (arith, end, c.from.ensures, c.from-2.ensures, c.lots_before.ensures.before, c.lot_count.ensures.count)
