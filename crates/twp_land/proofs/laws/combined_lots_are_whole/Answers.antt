use Rattle.twp_land.proofs.CombinedLots as laws
use Rattle.twp_land.proofs.laws.combined_lots_are_whole.Goals as goal

pub returns : goal.returns
returns c = laws.combined_lots_are_whole
