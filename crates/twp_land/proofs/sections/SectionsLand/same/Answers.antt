-- A section in which the sets contain different places, or no such section.
use Rattle.std.proofs.Common.{arith}
use Rattle.twp_land.proofs.LandFacts.{same_at, same_next}
use Rattle.twp_land.proofs.sections.SectionsLand.same.Goals as goal

pub returns-then-not-same_plot : goal.returns-then-not-same_plot
returns-then-not-same_plot g c = (
  λ h. cc h,
  λ same.
      cc
      (c.same_plot.ensures.1
      (same_at g.P.Plot.held c.args.self.now.plots c.args.other.now.plots c.loop-index.index
      c.index-self-index.result c.index-other-index.result (omega arith) (omega arith) (omega arith) same)),
)

pub loop-index-preserved : goal.loop-index-preserved
loop-index-preserved g c =
    same_next g.P.Plot.held c.args.self.now.plots c.args.other.now.plots c.loop-index.index
    c.index-self-index.result c.index-other-index.result (omega arith) (omega arith) (omega arith)
    (c.same_plot.ensures.0 c.if-not-same_plot.false) c.loop-index.invariant
