use Rattle.std.proofs.Common.{◌≡◌, drop}
use Rattle.twp_rules.specs.Arrangement.{is_list_from}
use Rattle.twp_rules.proofs.arrangement.is_list.Given as goal

-- the rest decides
abbrev pub invariant-loop-at : goal.invariant-loop-at
invariant-loop-at l = is_list_from l.seen 0 l.seen ≡ is_list_from l.seen l.at (drop l.at l.seen)
