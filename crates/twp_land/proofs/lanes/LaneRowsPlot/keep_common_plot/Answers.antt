use Rattle.std.proofs.Common.{◌∙◌, arith}
use Rattle.twp_land.proofs.JoinFacts.{lanes_common}
use Rattle.twp_land.specs.Storage.{held_by_lane}
use Rattle.twp_land.proofs.LaneFacts.{nothing_kept}
use Rattle.twp_land.proofs.lanes.LaneRowsPlot.keep_common_plot.Goals as goal

pub invariant_of-self : goal.invariant_of-self
invariant_of-self c =
    rw (c.vector.ensures.lanes, c.vector-2.ensures.lanes) (record {
      untouched = λ untouched.
          lanes_common c.args.self.now.lanes c.args.other.now.lanes (omega arith) (omega arith)
          ∙ nothing_kept (held_by_lane c.args.self.now.lanes) (held_by_lane c.args.other.now.lanes)
          (c.args.self.now.untouched untouched);
    })

pub returns : goal.returns
returns c =
    rw (c.vector.ensures.lanes, c.vector-2.ensures.lanes)
    (lanes_common c.args.self.now.lanes c.args.other.now.lanes (omega arith) (omega arith))
