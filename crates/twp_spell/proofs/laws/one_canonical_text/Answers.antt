use Rattle.twp_spell.proofs.CanonicalFacts as facts
use Rattle.twp_spell.proofs.laws.one_canonical_text.Goals as goal

pub returns : goal.returns
returns c = facts.one_text
