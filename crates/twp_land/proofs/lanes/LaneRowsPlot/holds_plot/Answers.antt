use Rattle.std.proofs.Common.{arith}
use Rattle.twp_land.proofs.TakenFacts.{lanes_contain}
use Rattle.twp_land.proofs.lanes.LaneRowsPlot.holds_plot.Goals as goal

pub returns : goal.returns
returns c =
    rw (c.vector.ensures.lanes, c.vector-2.ensures.lanes)
    (lanes_contain c.args.self.now.lanes c.args.other.now.lanes (omega arith) (omega arith)
    c.vector.ensures.below c.vector-2.ensures.below)
