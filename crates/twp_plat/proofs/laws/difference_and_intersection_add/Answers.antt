use Rattle.twp_plat.proofs.CombinedAreas as laws
use Rattle.twp_plat.proofs.laws.difference_and_intersection_add.Goals as goal

pub returns : goal.returns
returns c = laws.difference_and_intersection_add
