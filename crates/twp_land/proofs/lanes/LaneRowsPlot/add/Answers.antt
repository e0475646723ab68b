use Rattle.std.proofs.Common.{◌≤◌, arith}
use Rattle.twp_land.proofs.BlockFacts.{dyadic_in_section}
use Rattle.twp_land.proofs.LaneFacts.{lanes_with_block}
use Rattle.twp_land.proofs.LowLaneFacts.{low_with_block}
use Rattle.twp_land.proofs.lanes.LaneRowsPlot.add.Goals as goal

pub returns-then-height-le-LOW : goal.returns-then-height-le-LOW
returns-then-height-le-LOW c =
    let few : c.args.block.rows.len ≤ 2 = omega (arith, c.height.ensures.value, c.if-height-le-LOW.true) in
    let rows = c.end_rows-first.ensures.dyadic in
    let columns = c.column_bits-bits.ensures in
    rw (c.touch.ensures.lanes, c.end_rows-first.ensures.first, c.end_rows-first.ensures.last)
    (low_with_block c.args.self.now.lanes c.column_bits-bits.result c.args.block (omega arith) rows.some few
    columns.value (dyadic_in_section c.args.block rows columns.dyadic))

pub returns : goal.returns
returns c =
    let of = c.block_lanes.ensures in
    rw (c.vector.ensures.lanes, c.touch.ensures.lanes)
    (lanes_with_block c.args.self.now.lanes c.block_lanes.result c.args.block (omega arith) of.lanes
    (dyadic_in_section c.args.block of.rows of.columns))
