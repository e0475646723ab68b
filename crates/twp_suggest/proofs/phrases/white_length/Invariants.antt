use Rattle.std.proofs.Common.{◌≡◌, ◌+◌, drop}
use Rattle.twp_suggest.specs.Assumptions.{white_length}
use Rattle.twp_suggest.proofs.phrases.white_length.Given as goal

-- the rest decides
abbrev pub invariant-loop-index : goal.invariant-loop-index
invariant-loop-index l = white_length l.rest ≡ l.index + white_length (drop l.index l.rest)
