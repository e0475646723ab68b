-- One more section is emptied; after the last one no place is left.
use Rattle.std.proofs.Common.{◌+◌, arith, length-set, ◌∙◌}
use Rattle.twp_land.proofs.LandFacts.{cleared_next}
use Rattle.twp_land.proofs.LandRanges.{none_within, within_wider}
use Rattle.twp_land.proofs.sections.SectionsPlaceSet.clear.Goals as goal

pub loop-index-preserved : goal.loop-index-preserved
loop-index-preserved g c =
    let is = c.loop-index.invariant in
    record {
      all = length-set c.loop-index.self.plots c.loop-index.index c.empty.result ∙ is.all;
      reach = is.reach;
      left =
          cleared_next g.P.Plot.held c.loop-index.self.plots c.loop-index.index c.args.self.now.reach.end
          c.empty.result (omega arith) is.all c.empty.ensures is.left;
    }

pub invariant_of-self : goal.invariant_of-self
invariant_of-self g c =
    let is = c.loop-index.invariant in
    let left =
    cleared_next g.P.Plot.held c.loop-index.self.plots c.loop-index.index c.args.self.now.reach.end
    c.empty.result (omega arith) is.all c.empty.ensures is.left in
    record {
      few = c.loop-index.self.few;
      within =
          rw is.reach
          (within_wider _ (c.loop-index.index + 1 + 1) c.args.self.now.reach.end
          (c.args.self.now.reach.first + 1) c.args.self.now.reach.end (omega arith) (omega arith) left);
    }

pub returns : goal.returns
returns g c =
    none_within _ (c.loop-index.index + 1) c.args.self.now.reach.end c.loop-index.invariant.left (omega arith)
