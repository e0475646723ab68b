use Rattle.std.proofs.Common.{◌≡◌, drop}
use Rattle.twp_rules.specs.Rules.{without_spaces}
use Rattle.twp_rules.proofs.context.without_spaces.Given as goal

-- only spaces are before the rest
abbrev pub invariant-loop-index : goal.invariant-loop-index
invariant-loop-index l = without_spaces l.text ≡ without_spaces (drop l.index l.text)
