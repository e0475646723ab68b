use Rattle.std.proofs.Common.{◌≡◌, ◌-◌}
use Rattle.twp_rules.specs.Roles.{is_in_list}
use Rattle.twp_rules.proofs.roles.is_in_list.Given as goal

-- the rest decides
abbrev pub invariant-loop-count : goal.invariant-loop-count
invariant-loop-count l = is_in_list l.text l.start ≡ is_in_list l.text (l.start - l.count)
