use Rattle.twp_grammar.proofs.WordFacts.{is_same}
use Rattle.twp_calls.proofs.designation_mark.is_word.Goals as goal

pub returns : goal.returns
returns c = is_same c.eq_ignore_ascii_case.result _ _ (rw c.requires at c.eq_ignore_ascii_case.ensures.test)
