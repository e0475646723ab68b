use Rattle.twp_resolve.proofs.DescribedLand as land
use Rattle.twp_resolve.proofs.laws.description_names_some_place.Goals as goal

pub returns : goal.returns
returns c = land.names_some_place
