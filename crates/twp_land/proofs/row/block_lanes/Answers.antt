use Rattle.std.proofs.Common.{◌≡◌, ◌+◌, ◌-◌, ◌^◌}
use Rattle.twp_land.proofs.BlockLaneFacts.{are_block_lanes}
use Rattle.twp_land.proofs.BlockFacts.{dyadic_in_section}
use Rattle.twp_land.proofs.row.block_lanes.Goals as goal

pub returns-clause-lanes : goal.returns-clause-lanes
returns-clause-lanes c =
    let rows : c.ones-rows.result
    ≡ 2 ^ (c.args.block.rows.start + c.args.block.rows.len) - 2 ^ c.args.block.rows.start =
    rw (c.row.ensures.value, c.height.ensures.value) at c.ones-rows.ensures in
    are_block_lanes c.args.block c.ones-rows.result c.column_bits-columns.result
    (dyadic_in_section c.args.block c.row.ensures.dyadic c.column_bits-columns.ensures.dyadic) rows
    c.column_bits-columns.ensures.value
