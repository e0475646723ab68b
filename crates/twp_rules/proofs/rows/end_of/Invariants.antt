use Rattle.std.proofs.Common.{◌≡◌, drop}
use Rattle.twp_rules.specs.steps.Rows.{without}
use Rattle.twp_rules.proofs.rows.end_of.Given as goal

-- only marks are before the rest
abbrev pub invariant-loop-index : goal.invariant-loop-index
invariant-loop-index l = without 95 l.row ≡ without 95 (drop l.index l.row)
