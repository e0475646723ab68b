use Rattle.twp_plat.proofs.lots.LotLaws as laws
use Rattle.twp_plat.proofs.laws.lots.lot_area_is_plat_area.Goals as goal

pub returns : goal.returns
returns c = laws.lot_area_is_plat_area
