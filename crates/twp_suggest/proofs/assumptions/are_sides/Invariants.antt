use Rattle.std.proofs.Common.{◌≡◌, drop}
use Rattle.twp_suggest.specs.Assumptions.{are_sides}
use Rattle.twp_suggest.proofs.assumptions.are_sides.Given as goal

-- the rest decides
abbrev pub invariant-loop-byte : goal.invariant-loop-byte
invariant-loop-byte l = are_sides l.word ≡ are_sides (drop l.byte-index l.word)
