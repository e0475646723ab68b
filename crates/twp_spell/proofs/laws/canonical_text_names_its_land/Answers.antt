use Rattle.twp_spell.proofs.ReadBack as read_back
use Rattle.twp_spell.proofs.laws.canonical_text_names_its_land.Goals as goal

pub returns : goal.returns
returns c = read_back.names_its_land
