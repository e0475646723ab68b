use Rattle.twp_answers.proofs.runs.TractSums as laws
use Rattle.twp_answers.proofs.laws.rest_adds_up.Goals as goal

pub returns : goal.returns
returns c = laws.rest_adds_up
