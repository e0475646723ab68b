use Rattle.std.proofs.Common.{◌≡◌, drop, []}
use Rattle.twp_rules.specs.Naming.{has_no_bare_number_from, word_of}
use Rattle.twp_rules.proofs.naming.has_no_bare_number.Given as goal

-- the rest decides
abbrev pub invariant-loop-at : goal.invariant-loop-at
invariant-loop-at l = has_no_bare_number_from l.seen 0 [] l.seen
    ≡ has_no_bare_number_from l.seen l.at (word_of l.named) (drop l.at l.seen)
