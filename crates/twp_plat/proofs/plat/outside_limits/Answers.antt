use Rattle.std.proofs.Common.{refl, get_or}
use Rattle.twp_plat.proofs.QuarterLines.{least_quarters, spans, more_than, quarter_on_plat, within_limits}
use Rattle.twp_plat.proofs.QuarterLines.{not_below}
use Rattle.twp_plat.proofs.plat.outside_limits.Goals as goal

pub returns-then-quarter-index-clause-none : goal.returns-then-quarter-index-clause-none
returns-then-quarter-index-clause-none c = (
  λ h. cc h,
  λ on.
      absurd
      (not_below (get_or spans c.args.index 0)
      (more_than (get_or least_quarters c.args.index 0) c.args.quarter)
      c.if-quarter-index.true
      (within_limits c.args.index c.args.quarter c.requires on)),
)

pub returns-clause-none : goal.returns-clause-none
returns-clause-none c = (
  λ _. quarter_on_plat c.args.index c.args.quarter c.requires c.ranges.quarter.fits c.if-quarter-index.false,
  λ _. refl,
)
