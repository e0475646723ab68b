use Rattle.twp_resolve.proofs.DescribedLand as land
use Rattle.twp_resolve.proofs.laws.described_land_is_of_township.Goals as goal

pub returns : goal.returns
returns c = land.is_of_township
