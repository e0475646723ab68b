use Rattle.std.proofs.Common.{◌≡◌, []}
use Rattle.twp_rules.specs.Naming.{word_of}
use Rattle.twp_rules.proofs.NamingFacts.{none_from}
use Rattle.twp_rules.proofs.naming.names_no_land.Given as goal

-- the rest decides
abbrev pub invariant-loop-at : goal.invariant-loop-at
invariant-loop-at l = none_from l.seen 0 [] ≡ none_from l.seen l.at (word_of l.named)
