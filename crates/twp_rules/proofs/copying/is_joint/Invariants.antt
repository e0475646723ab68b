use Rattle.std.proofs.Common.{◌≡◌, drop}
use Rattle.twp_rules.specs.Copying.{is_joint}
use Rattle.twp_rules.proofs.copying.is_joint.Given as goal

-- the rest decides
abbrev pub invariant-loop-byte : goal.invariant-loop-byte
invariant-loop-byte l = is_joint l.seen ≡ is_joint (drop l.byte-index l.seen)
