use Rattle.twp_spell.proofs.FinerParts as facts
use Rattle.twp_spell.proofs.laws.finer_places_same_parts.Goals as goal

pub returns : goal.returns
returns c = facts.same_parts
