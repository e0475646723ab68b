use Rattle.twp_resolve.proofs.OtherPlats as plats
use Rattle.twp_resolve.proofs.laws.same_land_on_each_plat.Goals as goal

pub returns : goal.returns
returns c = plats.same_land
