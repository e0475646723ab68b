use Rattle.twp_spell.proofs.ReadBack as read_back
use Rattle.twp_spell.proofs.laws.one_text_for_each_land.Goals as goal

pub returns : goal.returns
returns c = read_back.one_text_for_each
