use Rattle.twp_answers.proofs.runs.OneAccountAnswer as answers
use Rattle.twp_answers.proofs.laws.one_answer_by.Goals as goal

pub returns : goal.returns
returns c = answers.one_answer_by
