use Rattle.twp_grammar.proofs.OneDerivation as derivation
use Rattle.twp_grammar.proofs.laws.one_item_list.Goals as goal

pub returns : goal.returns
returns c = derivation.one_item_list
