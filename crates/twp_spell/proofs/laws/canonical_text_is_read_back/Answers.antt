use Rattle.twp_spell.proofs.ReadBack as read_back
use Rattle.twp_spell.proofs.laws.canonical_text_is_read_back.Goals as goal

pub returns : goal.returns
returns c = read_back.read_back
