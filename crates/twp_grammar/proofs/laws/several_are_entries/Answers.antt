use Rattle.twp_grammar.proofs.Several as several
use Rattle.twp_grammar.proofs.laws.several_are_entries.Goals as goal

pub returns : goal.returns
returns c = several.several_are_entries
