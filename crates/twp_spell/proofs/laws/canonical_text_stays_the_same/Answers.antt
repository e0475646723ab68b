use Rattle.twp_spell.proofs.ReadBack as read_back
use Rattle.twp_spell.proofs.laws.canonical_text_stays_the_same.Goals as goal

pub returns : goal.returns
returns c = read_back.stays_the_same
