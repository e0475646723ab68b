use Rattle.std.proofs.Common.{refl}
use Rattle.twp_land.proofs.LottingFacts.{section_has_land}
use Rattle.twp_land.proofs.lotting.StandardLotsLotting.has_land.Goals as goal

pub returns : goal.returns
returns c = (λ is. section_has_land c.args._section, λ has. refl)
