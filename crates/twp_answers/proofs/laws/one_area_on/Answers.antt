use Rattle.twp_answers.proofs.runs.OnPlatFacts as answers
use Rattle.twp_answers.proofs.laws.one_area_on.Goals as goal

pub returns : goal.returns
returns c = answers.one_area_on
