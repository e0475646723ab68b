use Rattle.std.proofs.Common.{List, length}
use Rattle.twp_grammar.specs.Tokens.{Token}
use Rattle.twp_diagnose.specs.steps.Marking.{AreLeft}
use Rattle.twp_diagnose.proofs.AfterFacts.{IsSought}
use Rattle.twp_diagnose.proofs.sight.Surroundings.after.Given as goal

-- the sign is among the tokens that are left, so many after their first
abbrev pub invariant-tokens : goal.invariant-tokens
invariant-tokens l =
    (list : List Token) → AreLeft (record { at = 0; bytes = l.self.rest.now }) list
    → IsSought list l.index l.left l.tokens

abbrev pub decreases-tokens : goal.decreases-tokens
decreases-tokens l = length l.tokens.bytes
