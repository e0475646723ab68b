use Rattle.twp_plat.proofs.PlatLaws as laws
use Rattle.twp_plat.proofs.laws.disjoint_plat_areas_add.Goals as goal

pub returns : goal.returns
returns c = laws.disjoint_plat_areas_add
