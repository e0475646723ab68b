use Rattle.twp_answers.proofs.runs.OnPlatFacts as answers
use Rattle.twp_answers.proofs.laws.answered_or_refused_on.Goals as goal

pub returns : goal.returns
returns c = answers.answered_or_refused_on
