use Rattle.std.proofs.Common.{◌≡◌, ◌-◌}
use Rattle.twp_rules.specs.Roles.{byte_before_spaces}
use Rattle.twp_rules.proofs.roles.byte_before_spaces.Given as goal

-- the rest decides
abbrev pub invariant-loop-count : goal.invariant-loop-count
invariant-loop-count l = byte_before_spaces l.text l.at ≡ byte_before_spaces l.text (l.at - l.count)
