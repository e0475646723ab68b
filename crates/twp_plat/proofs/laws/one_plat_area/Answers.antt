use Rattle.twp_plat.proofs.PlatLaws as laws
use Rattle.twp_plat.proofs.laws.one_plat_area.Goals as goal

pub returns : goal.returns
returns c = laws.one_plat_area
