use Rattle.twp_plat.proofs.AreaLaws as laws
use Rattle.twp_plat.proofs.laws.one_land_area.Goals as goal

pub returns : goal.returns
returns c = laws.one_land_area
