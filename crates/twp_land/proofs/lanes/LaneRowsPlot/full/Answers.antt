use Rattle.std.proofs.Common.{arith}
use Rattle.twp_land.proofs.BlockFacts.{dyadic_in_section}
use Rattle.twp_land.proofs.LaneFacts.{lanes_are_full}
use Rattle.twp_land.proofs.lanes.LaneRowsPlot.full.Goals as goal

pub returns : goal.returns
returns c =
    let of = c.block_lanes-block.ensures in
    rw c.vector.ensures.lanes
    (lanes_are_full c.args.self.now.lanes c.block_lanes-block.result c.args.block (omega arith) of.lanes
    (dyadic_in_section c.args.block of.rows of.columns))
