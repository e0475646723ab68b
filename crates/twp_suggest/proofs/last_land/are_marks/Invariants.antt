use Rattle.std.proofs.Common.{◌≡◌, drop}
use Rattle.twp_suggest.specs.Repeats.{are_marks}
use Rattle.twp_suggest.proofs.last_land.are_marks.Given as goal

-- the rest decides
abbrev pub invariant-loop-byte : goal.invariant-loop-byte
invariant-loop-byte l = are_marks l.text ≡ are_marks (drop l.byte-index l.text)
