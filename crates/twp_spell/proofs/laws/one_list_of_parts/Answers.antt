use Rattle.twp_spell.proofs.PartLaws as facts
use Rattle.twp_spell.proofs.laws.one_list_of_parts.Goals as goal

pub returns : goal.returns
returns c = facts.one_list
