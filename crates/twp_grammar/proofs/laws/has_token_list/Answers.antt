use Rattle.twp_grammar.proofs.TokenFacts as facts
use Rattle.twp_grammar.proofs.laws.has_token_list.Goals as goal

pub returns : goal.returns
returns c = facts.has_token_list
