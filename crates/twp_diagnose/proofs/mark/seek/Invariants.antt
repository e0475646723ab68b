use Rattle.std.proofs.Common.{◌≡◌, List, length}
use Rattle.twp_grammar.specs.Tokens.{Token}
use Rattle.twp_diagnose.specs.steps.Marking.{AreLeft, end_of_left}
use Rattle.twp_diagnose.proofs.MarkFacts.{IsPassed}
use Rattle.twp_diagnose.proofs.mark.seek.Given as goal

-- the tokens so far stand elsewhere
abbrev pub invariant-tokens : goal.invariant-tokens
invariant-tokens l = record {
  passed : (list : List Token) → AreLeft l.fn.tokens list → IsPassed l.at list l.tokens;
  end : end_of_left l.tokens ≡ end_of_left l.fn.tokens;
}

abbrev pub decreases-tokens : goal.decreases-tokens
decreases-tokens l = length l.tokens.bytes
