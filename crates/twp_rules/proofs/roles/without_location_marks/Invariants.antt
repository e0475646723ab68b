use Rattle.std.proofs.Common.{◌≡◌, drop}
use Rattle.twp_rules.specs.Roles.{without_location_marks}
use Rattle.twp_rules.proofs.roles.without_location_marks.Given as goal

-- the rest decides
abbrev pub invariant-loop-index : goal.invariant-loop-index
invariant-loop-index l = without_location_marks l.text ≡ without_location_marks (drop l.index l.text)
