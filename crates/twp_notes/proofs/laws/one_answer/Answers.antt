use Rattle.twp_notes.proofs.OneAnswer as answers
use Rattle.twp_notes.proofs.laws.one_answer.Goals as goal

pub returns : goal.returns
returns c = answers.one_answer
