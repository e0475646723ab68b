use Rattle.std.proofs.Common.{◌≡◌, ◌+◌, drop}
use Rattle.twp_suggest.specs.Assumptions.{word_length}
use Rattle.twp_suggest.proofs.phrases.word_length.Given as goal

-- the rest decides
abbrev pub invariant-loop-index : goal.invariant-loop-index
invariant-loop-index l = word_length l.rest ≡ l.index + word_length (drop l.index l.rest)
