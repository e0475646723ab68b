use Rattle.twp_spell.proofs.CanonicalFacts as facts
use Rattle.twp_spell.proofs.laws.empty_land_has_empty_text.Goals as goal

pub returns : goal.returns
returns c = facts.empty_text
