use Rattle.std.proofs.Common.{◌≡◌, drop}
use Rattle.twp_rules.specs.Moving.{is_only_of_from}
use Rattle.twp_rules.proofs.moving.is_only_of.Given as goal

-- the rest decides
abbrev pub invariant-loop-at : goal.invariant-loop-at
invariant-loop-at l =
    is_only_of_from l.kind l.seen 0 l.seen ≡ is_only_of_from l.kind l.seen l.at (drop l.at l.seen)
