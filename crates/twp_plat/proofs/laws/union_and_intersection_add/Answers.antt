use Rattle.twp_plat.proofs.CombinedAreas as laws
use Rattle.twp_plat.proofs.laws.union_and_intersection_add.Goals as goal

pub returns : goal.returns
returns c = laws.union_and_intersection_add
