use Rattle.std.proofs.Common.{◌≡◌, drop}
use Rattle.twp_rules.specs.Sayings.{has_no_limit_from}
use Rattle.twp_rules.proofs.sayings.has_no_limit.Given as goal

-- the rest decides
abbrev pub invariant-loop-at : goal.invariant-loop-at
invariant-loop-at l =
    has_no_limit_from l.kind l.seen 0 l.seen ≡ has_no_limit_from l.kind l.seen l.at (drop l.at l.seen)
