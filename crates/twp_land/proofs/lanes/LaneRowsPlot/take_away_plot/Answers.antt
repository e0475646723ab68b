use Rattle.std.proofs.Common.{◌∙◌, not, arith}
use Rattle.twp_land.proofs.TakenFacts.{lanes_taken}
use Rattle.twp_land.specs.Storage.{held_by_lane}
use Rattle.twp_land.proofs.LaneFacts.{nothing_kept}
use Rattle.twp_land.proofs.lanes.LaneRowsPlot.take_away_plot.Goals as goal

pub invariant_of-self : goal.invariant_of-self
invariant_of-self c =
    rw (c.vector.ensures.lanes, c.vector-2.ensures.lanes) (record {
      untouched = λ untouched.
          lanes_taken c.args.self.now.lanes c.args.other.now.lanes (omega arith) (omega arith)
          c.vector-2.ensures.below
          ∙ nothing_kept (held_by_lane c.args.self.now.lanes)
          (λ column row. not (held_by_lane c.args.other.now.lanes column row))
          (c.args.self.now.untouched untouched);
    })

pub returns : goal.returns
returns c =
    rw (c.vector.ensures.lanes, c.vector-2.ensures.lanes)
    (lanes_taken c.args.self.now.lanes c.args.other.now.lanes (omega arith) (omega arith)
    c.vector-2.ensures.below)
