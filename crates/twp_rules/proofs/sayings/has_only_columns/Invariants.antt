use Rattle.std.proofs.Common.{◌≡◌, drop}
use Rattle.twp_rules.specs.Sayings.{has_only_columns_from}
use Rattle.twp_rules.proofs.sayings.has_only_columns.Given as goal

-- the rest decides
abbrev pub invariant-loop-at : goal.invariant-loop-at
invariant-loop-at l =
    has_only_columns_from l.seen 0 l.seen ≡ has_only_columns_from l.seen l.at (drop l.at l.seen)
