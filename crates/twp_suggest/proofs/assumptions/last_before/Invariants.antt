use Rattle.std.proofs.Common.{◌≡◌, ◌-◌}
use Rattle.twp_suggest.specs.Assumptions.{last_before}
use Rattle.twp_suggest.proofs.assumptions.last_before.Given as goal

-- the rest decides
abbrev pub invariant-loop-count : goal.invariant-loop-count
invariant-loop-count l = last_before l.text l.at ≡ last_before l.text (l.at - l.count)
