use Rattle.std.proofs.Common.{◌≡◌, drop}
use Rattle.twp_grammar.specs.Tokens.{same_bytes}
use Rattle.twp_rules.specs.Lists.{before}
use Rattle.twp_rules.proofs.rows.is_before_filling.Given as goal

-- the rest decides
abbrev pub invariant-loop-index : goal.invariant-loop-index
invariant-loop-index l =
    same_bytes l.written (before 95 l.rest)
    ≡ same_bytes (drop l.index l.written) (before 95 (drop l.index l.rest))
