use Rattle.twp_answers.proofs.runs.FinerPlaces as finer
use Rattle.twp_answers.proofs.laws.thirty_seconds_keep_all.Goals as goal

pub returns : goal.returns
returns c = finer.thirty_seconds
