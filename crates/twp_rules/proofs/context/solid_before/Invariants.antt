use Rattle.std.proofs.Common.{◌≡◌, ◌-◌}
use Rattle.twp_rules.specs.Rules.{solid_before}
use Rattle.twp_rules.proofs.context.solid_before.Given as goal

-- the rest decides
abbrev pub invariant-loop-count : goal.invariant-loop-count
invariant-loop-count l = solid_before l.text l.at ≡ solid_before l.text (l.at - l.count)
