use Rattle.std.proofs.Common.{◌≡◌, ◌-◌}
use Rattle.twp_suggest.specs.Assumptions.{white_start}
use Rattle.twp_suggest.proofs.phrases.white_start.Given as goal

-- the rest decides
abbrev pub invariant-loop-count : goal.invariant-loop-count
invariant-loop-count l = white_start l.text l.at ≡ white_start l.text (l.at - l.count)
