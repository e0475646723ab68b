use Rattle.std.proofs.Common.{◌≡◌, drop}
use Rattle.twp_grammar.specs.Tokens.{same_bytes}
use Rattle.twp_rules.proofs.same.is_exactly.Given as goal

-- the rest decides
abbrev pub invariant-loop-index : goal.invariant-loop-index
invariant-loop-index l = same_bytes l.seen l.text ≡ same_bytes (drop l.index l.seen) (drop l.index l.text)
