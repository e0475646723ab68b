-- The places of one more section are taken away.
use Rattle.std.proofs.Common.{◌+◌, refl, arith, length-set, ◌∙◌}
use Rattle.twp_land.proofs.TakenLands.{taken_first, taken_next, taken_within, taken_all}
use Rattle.twp_land.proofs.sections.SectionsLand.take_away.Goals as goal

pub loop-index-init : goal.loop-index-init
loop-index-init g c = record {
  all = omega arith;
  reach = refl;
  taken =
      taken_first _ _ c.args.other.now.reach.first (c.args.other.now.reach.first + 1)
      c.args.other.now.reach.end c.args.other.now.within (omega arith);
}

pub invariant_of-self : goal.invariant_of-self
invariant_of-self g c =
    let is = c.loop-index.invariant in
    record {
      few = c.loop-index.self.few;
      within =
          rw is.reach
          (taken_within _ _ _ _ (c.args.self.now.reach.first + 1) c.args.self.now.reach.end
          (taken_next g.P.Plot.held c.args.self.now.plots c.args.other.now.plots c.loop-index.self.plots
          c.loop-index.index c.index-self-index.result c.index-other-index.result c.take_away_plot.new.self
          (omega arith) is.all (omega arith) c.take_away_plot.ensures is.taken)
          c.args.self.now.within);
    }

pub loop-index-preserved : goal.loop-index-preserved
loop-index-preserved g c =
    let is = c.loop-index.invariant in
    record {
      all = length-set c.loop-index.self.plots c.loop-index.index c.take_away_plot.new.self ∙ is.all;
      reach = is.reach;
      taken =
          taken_next g.P.Plot.held c.args.self.now.plots c.args.other.now.plots c.loop-index.self.plots
          c.loop-index.index c.index-self-index.result c.index-other-index.result c.take_away_plot.new.self
          (omega arith) is.all (omega arith) c.take_away_plot.ensures is.taken;
    }

pub returns : goal.returns
returns g c =
    c.loop-index.invariant.taken
    ∙ taken_all _ _ (c.args.other.now.reach.first + 1) c.args.other.now.reach.end c.loop-index.index
    c.args.other.now.within (omega arith)
