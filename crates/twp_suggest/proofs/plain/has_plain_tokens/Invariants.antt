use Rattle.std.proofs.Common.{length}
use Rattle.twp_suggest.specs.steps.Plain.{IsPlain, nothing_passed}
use Rattle.twp_suggest.proofs.plain.has_plain_tokens.Given as goal

-- the rest decides
abbrev pub invariant-loop-token : goal.invariant-loop-token
invariant-loop-token l =
    IsPlain l.passed l.left.at l.left.bytes
    → IsPlain nothing_passed 0 l.made

abbrev pub decreases-loop-token : goal.decreases-loop-token
decreases-loop-token l = length l.left.bytes
