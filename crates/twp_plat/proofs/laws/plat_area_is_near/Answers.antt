use Rattle.twp_plat.proofs.PlatLaws as laws
use Rattle.twp_plat.proofs.laws.plat_area_is_near.Goals as goal

pub returns : goal.returns
returns c = laws.plat_area_is_near
