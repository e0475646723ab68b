use Rattle.std.proofs.Common.{arith}
use Rattle.twp_land.proofs.JoinFacts.{lanes_joined}
use Rattle.twp_land.proofs.lanes.LaneRowsPlot.add_plot.Goals as goal

pub returns : goal.returns
returns c =
    rw (c.vector.ensures.lanes, c.vector-2.ensures.lanes, c.touch.ensures.lanes)
    (lanes_joined c.args.self.now.lanes c.args.other.now.lanes (omega arith) (omega arith))
