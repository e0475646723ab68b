use Rattle.std.proofs.Common.{◌≡◌, drop}
use Rattle.twp_rules.specs.Rules.{has_no_digit}
use Rattle.twp_rules.proofs.figures.has_no_digit.Given as goal

-- the rest decides
abbrev pub invariant-loop-byte : goal.invariant-loop-byte
invariant-loop-byte l = has_no_digit l.seen ≡ has_no_digit (drop l.byte-index l.seen)
