use Rattle.twp_answers.proofs.runs.OnPlatFacts as answers
use Rattle.twp_answers.proofs.laws.text_of_plat_is_of_notes.Goals as goal

pub returns : goal.returns
returns c = answers.text_of_plat_is_of_notes
