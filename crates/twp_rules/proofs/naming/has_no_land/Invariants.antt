use Rattle.std.proofs.Common.{◌≡◌, drop}
use Rattle.twp_rules.specs.Naming.{has_no_land_from}
use Rattle.twp_rules.proofs.naming.has_no_land.Given as goal

-- the rest decides
abbrev pub invariant-loop-at : goal.invariant-loop-at
invariant-loop-at l = has_no_land_from l.seen 0 l.seen ≡ has_no_land_from l.seen l.at (drop l.at l.seen)
