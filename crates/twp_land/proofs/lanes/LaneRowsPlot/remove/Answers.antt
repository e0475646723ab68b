use Rattle.std.proofs.Common.{◌∙◌, not, arith}
use Rattle.twp_grid.specs.Spans.{in_rectangle}
use Rattle.twp_land.proofs.RemovalFacts.{lanes_without_block}
use Rattle.twp_land.specs.Storage.{held_by_lane}
use Rattle.twp_land.proofs.LaneFacts.{nothing_kept}
use Rattle.twp_land.proofs.lanes.LaneRowsPlot.remove.Goals as goal

pub invariant_of-self : goal.invariant_of-self
invariant_of-self c =
    rw c.vector.ensures.lanes (record {
      untouched = λ untouched.
          lanes_without_block c.args.self.now.lanes c.block_lanes.result c.args.block (omega arith)
          c.block_lanes.ensures.lanes
          ∙ nothing_kept (held_by_lane c.args.self.now.lanes)
          (λ column row. not (in_rectangle c.args.block column row)) (c.args.self.now.untouched untouched);
    })

pub returns : goal.returns
returns c =
    rw c.vector.ensures.lanes
    (lanes_without_block c.args.self.now.lanes c.block_lanes.result c.args.block (omega arith)
    c.block_lanes.ensures.lanes)
