use Rattle.std.proofs.Common.{sym}
use Rattle.twp_grid.specs.Lands.{lotting}
use Rattle.twp_suggest.specs.Closed.{NamesSame}
use Rattle.twp_suggest.proofs.ClosedFacts.{any_here}
use Rattle.twp_suggest.proofs.closed.have_land.Goals as goal

pub returns-then-is_same : goal.returns-then-is_same
returns-then-is_same g c = λ _.
    any_here (NamesSame (lotting (g.P.Lotting.layout c.args.lots.now)) c.args.township _) c.args.readings.now
    c.loop-reading.reading-index
    c.reading-item.result c.reading-item.result c.loop-reading-test.true (sym c.reading-item.is)
    (c.in_ok-is_same.ensures c.if-is_same.true)
