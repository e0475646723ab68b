use Rattle.std.proofs.Common.{arith}
use Rattle.twp_land.proofs.BlockFacts.{dyadic_in_section}
use Rattle.twp_land.proofs.LaneFacts.{count_in_lanes}
use Rattle.twp_land.proofs.lanes.LaneRowsPlot.count.Goals as goal

pub returns : goal.returns
returns c =
    let of = c.block_lanes.ensures in
    rw (c.count_bits.ensures, c.vector.ensures.lanes)
    (count_in_lanes c.args.self.now.lanes c.block_lanes.result c.args.block (omega arith) of.lanes
    (dyadic_in_section c.args.block of.rows of.columns))
