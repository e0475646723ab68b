use Rattle.twp_plat.proofs.lots.LotLaws as laws
use Rattle.twp_plat.proofs.laws.lots.one_lot_area.Goals as goal

pub returns : goal.returns
returns c = laws.one_lot_area
