use Rattle.std.proofs.Common.{◌≡◌, drop}
use Rattle.twp_rules.specs.Keeping.{without_zeros}
use Rattle.twp_rules.proofs.keeping.without_zeros.Given as goal

-- the rest decides
abbrev pub invariant-loop-index : goal.invariant-loop-index
invariant-loop-index l = without_zeros l.text ≡ without_zeros (drop l.index l.text)
