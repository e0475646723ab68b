use Rattle.std.proofs.Common.{◌≡◌, drop}
use Rattle.twp_rules.specs.Arrangement.{has_break}
use Rattle.twp_rules.proofs.arrangement.has_break.Given as goal

-- the rest decides
abbrev pub invariant-loop-byte : goal.invariant-loop-byte
invariant-loop-byte l = has_break l.seen ≡ has_break (drop l.byte-index l.seen)
