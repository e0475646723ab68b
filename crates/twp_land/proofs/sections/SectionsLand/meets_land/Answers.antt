-- A section in which the sets share a place, or no such section.
use Rattle.std.proofs.Common.{refl, arith}
use Rattle.twp_land.proofs.LandFacts.{share_found, apart_next}
use Rattle.twp_land.proofs.sections.SectionsLand.meets_land.Goals as goal

pub returns-then-meets_plot : goal.returns-then-meets_plot
returns-then-meets_plot g c = (
  λ _.
      share_found g.P.Plot.held c.args.self.now.plots c.args.other.now.plots c.loop-index.index
      c.index-self-index.result c.index-other-index.result (omega arith) (omega arith) (omega arith)
      (c.meets_plot.ensures.0 c.if-meets_plot.true),
  λ _. refl,
)

pub loop-index-preserved : goal.loop-index-preserved
loop-index-preserved g c =
    apart_next g.P.Plot.held c.args.self.now.plots c.args.other.now.plots c.loop-index.index
    c.index-self-index.result c.index-other-index.result (omega arith) (omega arith) (omega arith)
    (λ shared. absurd (cc (c.meets_plot.ensures.1 shared))) c.loop-index.invariant
