use Rattle.twp_answers.proofs.runs.OneAnswer as answers
use Rattle.twp_answers.proofs.laws.one_answer.Goals as goal

pub returns : goal.returns
returns c = answers.one_answer
