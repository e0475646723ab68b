-- The places of one more section that are in both sets are kept.
use Rattle.std.proofs.Common.{◌+◌, refl, arith, length-set, ◌∙◌}
use Rattle.twp_land.proofs.CommonLands.{common_first, common_next, common_within, common_all}
use Rattle.twp_land.proofs.sections.SectionsLand.keep_common.Goals as goal

pub loop-index-init : goal.loop-index-init
loop-index-init g c = record {
  all = omega arith;
  reach = refl;
  common =
      common_first _ _ c.args.self.now.reach.first (c.args.self.now.reach.first + 1)
      c.args.self.now.reach.end c.args.self.now.within (omega arith);
}

pub invariant_of-self : goal.invariant_of-self
invariant_of-self g c =
    let is = c.loop-index.invariant in
    record {
      few = c.loop-index.self.few;
      within =
          rw is.reach
          (common_within _ _ _ _ (c.args.self.now.reach.first + 1) c.args.self.now.reach.end
          (common_next g.P.Plot.held c.args.self.now.plots c.args.other.now.plots c.loop-index.self.plots
          c.loop-index.index c.index-self-index.result c.index-other-index.result c.keep_common_plot.new.self
          (omega arith) is.all (omega arith) c.keep_common_plot.ensures is.common)
          c.args.self.now.within);
    }

pub loop-index-preserved : goal.loop-index-preserved
loop-index-preserved g c =
    let is = c.loop-index.invariant in
    record {
      all = length-set c.loop-index.self.plots c.loop-index.index c.keep_common_plot.new.self ∙ is.all;
      reach = is.reach;
      common =
          common_next g.P.Plot.held c.args.self.now.plots c.args.other.now.plots c.loop-index.self.plots
          c.loop-index.index c.index-self-index.result c.index-other-index.result c.keep_common_plot.new.self
          (omega arith) is.all (omega arith) c.keep_common_plot.ensures is.common;
    }

pub returns : goal.returns
returns g c =
    c.loop-index.invariant.common
    ∙ common_all _ _ (c.args.self.now.reach.first + 1) c.args.self.now.reach.end c.loop-index.index
    c.args.self.now.within (omega arith)
