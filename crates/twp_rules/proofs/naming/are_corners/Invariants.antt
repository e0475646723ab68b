use Rattle.std.proofs.Common.{◌≡◌, drop, true}
use Rattle.twp_rules.specs.Naming.{are_corners_from}
use Rattle.twp_rules.proofs.naming.are_corners.Given as goal

-- the rest decides
abbrev pub invariant-loop-byte : goal.invariant-loop-byte
invariant-loop-byte l =
    are_corners_from true l.word ≡ are_corners_from l.is_first (drop l.byte-index l.word)
