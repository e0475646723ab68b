-- A row in which the sets share a place, or no such row.
use Rattle.std.proofs.Common.{arith, below_more}
use Rattle.twp_land.proofs.JoinFacts.{rows_apart}
use Rattle.twp_land.proofs.rows.RowsPlot.meets_plot.Goals as goal

pub loop-row-preserved : goal.loop-row-preserved
loop-row-preserved c =
    below_more _ _ c.loop-row.invariant (λ shared. absurd (cc (c.share.ensures.1 shared)))

pub returns : goal.returns
returns c = (
  λ h. cc h,
  λ shared. absurd (rows_apart c.args.self.now.rows c.args.other.now.rows (λ k below.
      c.loop-row.invariant k (omega arith)) shared),
)
