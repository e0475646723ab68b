use Rattle.std.proofs.Common.{◌≤◌}
use Rattle.twp_plat.proofs.QuarterLines.{IsCounted}
use Rattle.twp_plat.proofs.plat.are_on_plat.Given as goal

-- the lines so far are counted
abbrev pub invariant-loop-index : goal.invariant-loop-index
invariant-loop-index l = record {
  few : l.outside ≤ l.index;
  counted : IsCounted l.closing_quarters l.index l.outside;
}
