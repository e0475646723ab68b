use Rattle.std.proofs.Common.{◌≡◌, drop}
use Rattle.twp_rules.specs.Moves.{value_from}
use Rattle.twp_rules.proofs.moves.value_of.Given as goal

-- the rest decides
abbrev pub invariant-loop-digit : goal.invariant-loop-digit
invariant-loop-digit l = value_from 0 l.digits ≡ value_from l.value (drop l.digit-index l.digits)
