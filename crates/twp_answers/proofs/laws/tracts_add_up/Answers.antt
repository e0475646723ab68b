use Rattle.twp_answers.proofs.runs.TractSums as sums
use Rattle.twp_answers.proofs.laws.tracts_add_up.Goals as goal

pub returns : goal.returns
returns c = sums.tracts_add_up
