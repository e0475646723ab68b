use Rattle.twp_grammar.proofs.TokenFacts as facts
use Rattle.twp_grammar.proofs.laws.one_token_list.Goals as goal

pub returns : goal.returns
returns c = facts.one_token_list
