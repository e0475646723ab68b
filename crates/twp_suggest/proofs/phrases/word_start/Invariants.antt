use Rattle.std.proofs.Common.{◌≡◌, ◌-◌}
use Rattle.twp_suggest.specs.Assumptions.{word_start}
use Rattle.twp_suggest.proofs.phrases.word_start.Given as goal

-- the rest decides
abbrev pub invariant-loop-count : goal.invariant-loop-count
invariant-loop-count l = word_start l.text l.at ≡ word_start l.text (l.at - l.count)
