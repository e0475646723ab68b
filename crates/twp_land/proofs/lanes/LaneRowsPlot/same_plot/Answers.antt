use Rattle.std.proofs.Common.{arith}
use Rattle.twp_land.proofs.SameFacts.{lanes_same}
use Rattle.twp_land.proofs.lanes.LaneRowsPlot.same_plot.Goals as goal

pub returns : goal.returns
returns c =
    rw (c.vector.ensures.lanes, c.vector-2.ensures.lanes)
    (lanes_same c.args.self.now.lanes c.args.other.now.lanes (omega arith) (omega arith)
    c.vector.ensures.below c.vector-2.ensures.below)
