use Rattle.twp_answers.proofs.runs.FinerPlaces as finer
use Rattle.twp_answers.proofs.laws.finer_places_keep_plat_areas.Goals as goal

pub returns : goal.returns
returns c = finer.keep_plat_areas
