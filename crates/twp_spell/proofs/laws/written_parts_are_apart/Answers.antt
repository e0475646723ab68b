use Rattle.twp_spell.proofs.PartLaws as facts
use Rattle.twp_spell.proofs.laws.written_parts_are_apart.Goals as goal

pub returns : goal.returns
returns c = facts.apart
