use Rattle.twp_answers.proofs.runs.OnPlatFacts as answers
use Rattle.twp_answers.proofs.laws.normal_on_is_of_notes.Goals as goal

pub returns : goal.returns
returns c = answers.normal_on_is_of_notes
