use Rattle.twp_answers.proofs.runs.OnPlatFacts as answers
use Rattle.twp_answers.proofs.laws.acres_on_are_of_notes.Goals as goal

pub returns : goal.returns
returns c = answers.acres_on_are_of_notes
