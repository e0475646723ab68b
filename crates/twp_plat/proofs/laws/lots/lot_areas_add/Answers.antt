use Rattle.twp_plat.proofs.lots.LotLaws as laws
use Rattle.twp_plat.proofs.laws.lots.lot_areas_add.Goals as goal

pub returns : goal.returns
returns c = laws.lot_areas_add
