use Rattle.std.proofs.Common.{◌≡◌, drop}
use Rattle.twp_rules.specs.Keeping.{after_parenthesis}
use Rattle.twp_rules.proofs.keeping.after_parenthesis.Given as goal

-- the rest decides
abbrev pub invariant-loop-index : goal.invariant-loop-index
invariant-loop-index l = after_parenthesis l.rest ≡ after_parenthesis (drop l.index l.rest)
