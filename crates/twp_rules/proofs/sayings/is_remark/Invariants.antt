use Rattle.std.proofs.Common.{◌≡◌, []}
use Rattle.twp_rules.specs.Naming.{word_of}
use Rattle.twp_rules.proofs.SayingFacts.{remark_from}
use Rattle.twp_rules.proofs.sayings.is_remark.Given as goal

-- the rest decides
abbrev pub invariant-loop-at : goal.invariant-loop-at
invariant-loop-at l = remark_from l.seen 0 [] ≡ remark_from l.seen l.at (word_of l.named)
