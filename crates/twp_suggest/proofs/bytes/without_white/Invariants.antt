use Rattle.std.proofs.Common.{◌≡◌, drop}
use Rattle.twp_rules.specs.Edges.{without_white}
use Rattle.twp_suggest.proofs.bytes.without_white.Given as goal

-- only white space is before the rest
abbrev pub invariant-loop-index : goal.invariant-loop-index
invariant-loop-index l = without_white l.text ≡ without_white (drop l.index l.text)
