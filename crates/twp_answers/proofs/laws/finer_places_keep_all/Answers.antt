use Rattle.twp_answers.proofs.runs.FinerPlaces as finer
use Rattle.twp_answers.proofs.laws.finer_places_keep_all.Goals as goal

pub returns : goal.returns
returns c = finer.keep_all
