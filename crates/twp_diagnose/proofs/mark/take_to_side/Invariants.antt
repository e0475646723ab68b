use Rattle.std.proofs.Common.{◌≡◌, List, length}
use Rattle.twp_grammar.specs.Tokens.{Token}
use Rattle.twp_diagnose.specs.steps.Marking.{AreLeft, end_of_left}
use Rattle.twp_diagnose.proofs.HeadingFacts.{HaveNoSide}
use Rattle.twp_diagnose.proofs.mark.take_to_side.Given as goal

-- no range's side so far
abbrev pub invariant-tokens : goal.invariant-tokens
invariant-tokens l = record {
  none : (list : List Token) → AreLeft l.fn.tokens list → HaveNoSide list l.start l.end l.tokens;
  end : end_of_left l.tokens ≡ end_of_left l.fn.tokens;
}

abbrev pub decreases-tokens : goal.decreases-tokens
decreases-tokens l = length l.tokens.bytes
