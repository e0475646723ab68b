-- One more section is joined.
use Rattle.std.proofs.Common.{◌+◌, refl, arith, length-set, ◌∙◌}
use Rattle.twp_land.proofs.LandRanges.{within_wider}
use Rattle.twp_land.proofs.JoinedLands.{joined_first, joined_next, joined_within, joined_all}
use Rattle.twp_land.proofs.sections.SectionsLand.add_land.Goals as goal

pub loop-index-init : goal.loop-index-init
loop-index-init g c = record {
  all = omega arith;
  reach = refl;
  joined =
      joined_first _ _ c.args.other.now.reach.first (c.args.other.now.reach.first + 1)
      c.args.other.now.reach.end c.args.other.now.within (omega arith);
}

pub invariant_of-self : goal.invariant_of-self
invariant_of-self g c = record {
  few = omega (arith, c.widen.ensures.end, c.args.self.now.few, c.args.other.now.few);
  within =
      within_wider _ (c.args.self.now.reach.first + 1) c.args.self.now.reach.end (c.widen.new.self.first + 1)
      c.widen.new.self.end
      (omega (arith, c.widen.ensures.first)) (omega (arith, c.widen.ensures.end)) c.args.self.now.within;
}

pub invariant_of-self-in-loop-index : goal.invariant_of-self-in-loop-index
invariant_of-self-in-loop-index g c =
    let is = c.loop-index.invariant in
    record {
      few = c.loop-index.self.few;
      within =
          rw is.reach
          (joined_within _ _ _ _ (c.widen.new.self.first + 1) c.widen.new.self.end
          (c.args.other.now.reach.first + 1) c.args.other.now.reach.end
          (joined_next g.P.Plot.held c.args.self.now.plots c.args.other.now.plots c.loop-index.self.plots
          c.loop-index.index c.index-self-index.result c.index-other-index.result c.add_plot.new.self
          (omega arith) is.all (omega arith) c.add_plot.ensures is.joined)
          (omega (arith, c.widen.ensures.first)) (omega (arith, c.widen.ensures.end))
          (within_wider _ (c.args.self.now.reach.first + 1) c.args.self.now.reach.end
          (c.widen.new.self.first + 1) c.widen.new.self.end (omega (arith, c.widen.ensures.first))
          (omega (arith, c.widen.ensures.end)) c.args.self.now.within)
          c.args.other.now.within);
    }

pub loop-index-preserved : goal.loop-index-preserved
loop-index-preserved g c =
    let is = c.loop-index.invariant in
    record {
      all = length-set c.loop-index.self.plots c.loop-index.index c.add_plot.new.self ∙ is.all;
      reach = is.reach;
      joined =
          joined_next g.P.Plot.held c.args.self.now.plots c.args.other.now.plots c.loop-index.self.plots
          c.loop-index.index c.index-self-index.result c.index-other-index.result c.add_plot.new.self
          (omega arith) is.all (omega arith) c.add_plot.ensures is.joined;
    }

pub returns : goal.returns
returns g c =
    c.loop-index.invariant.joined
    ∙ joined_all _ _ (c.args.other.now.reach.first + 1) c.args.other.now.reach.end c.loop-index.index
    c.args.other.now.within (omega arith)
