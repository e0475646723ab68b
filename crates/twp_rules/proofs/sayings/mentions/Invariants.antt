use Rattle.std.proofs.Common.{◌≡◌, drop}
use Rattle.twp_rules.specs.Sayings.{mentions_from}
use Rattle.twp_rules.proofs.sayings.mentions.Given as goal

-- the rest decides
abbrev pub invariant-loop-at : goal.invariant-loop-at
invariant-loop-at l =
    mentions_from l.kind l.seen 0 l.seen ≡ mentions_from l.kind l.seen l.at (drop l.at l.seen)
