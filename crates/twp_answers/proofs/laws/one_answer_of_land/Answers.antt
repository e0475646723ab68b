use Rattle.twp_answers.proofs.runs.OneAnswer as answers
use Rattle.twp_answers.proofs.laws.one_answer_of_land.Goals as goal

pub returns : goal.returns
returns c = answers.one_answer_of_land
