use Rattle.std.proofs.Common.{◌≡◌, ◌++◌, drop}
use Rattle.twp_suggest.specs.Repeats.{solid}
use Rattle.twp_suggest.proofs.said.solid.Given as goal

-- the bytes so far, and those of the rest
abbrev pub invariant-loop-byte : goal.invariant-loop-byte
invariant-loop-byte l = l.made.items ++ solid (drop l.byte-index l.text) ≡ solid l.text
