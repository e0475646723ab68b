use Rattle.std.proofs.Common.{arith}
use Rattle.twp_grid.specs.Lands.{lotting}
use Rattle.twp_suggest.proofs.ReadingFacts.{one_more}
use Rattle.twp_suggest.proofs.reading.add.Goals as goal

pub returns : goal.returns
returns g c = λ text some is.
    one_more (lotting (g.P.Lotting.layout c.args.lots.now)) text c.args.readings.now.items
    c.push.new.self.items c.args.new some is
    (rw c.as_slice.ensures.value at (c.in_ok-is_new.ensures c.if-not-is_new.false)) (omega arith)
    c.in_ok-push.ensures.items
