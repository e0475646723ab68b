use Rattle.std.proofs.Common.{◌≡◌, drop}
use Rattle.twp_rules.specs.Apart.{is_blank}
use Rattle.twp_rules.proofs.apart.is_blank.Given as goal

-- the rest decides
abbrev pub invariant-loop-byte : goal.invariant-loop-byte
invariant-loop-byte l = is_blank l.bytes ≡ is_blank (drop l.byte-index l.bytes)
