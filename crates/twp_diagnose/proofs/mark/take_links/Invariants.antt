use Rattle.std.proofs.Common.{◌≡◌, List, length}
use Rattle.twp_grammar.specs.Tokens.{Token}
use Rattle.twp_diagnose.specs.steps.Marking.{AreLeft, end_of_left}
use Rattle.twp_diagnose.proofs.StepFacts.{AreLinks}
use Rattle.twp_diagnose.proofs.mark.take_links.Given as goal

-- the halves and quarters so far
abbrev pub invariant-links : goal.invariant-links
invariant-links l = record {
  taken : (list : List Token) → AreLeft l.fn.tokens list → AreLinks list l.start l.end l.tokens;
  end : end_of_left l.tokens ≡ end_of_left l.fn.tokens;
}

abbrev pub decreases-links : goal.decreases-links
decreases-links l = length l.tokens.bytes
