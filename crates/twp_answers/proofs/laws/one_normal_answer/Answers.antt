use Rattle.twp_answers.proofs.runs.OneNormal as normal
use Rattle.twp_answers.proofs.laws.one_normal_answer.Goals as goal

pub returns : goal.returns
returns c = normal.one_normal_answer
