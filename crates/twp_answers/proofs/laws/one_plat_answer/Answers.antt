use Rattle.twp_answers.proofs.runs.OnePlat as plats
use Rattle.twp_answers.proofs.laws.one_plat_answer.Goals as goal

pub returns : goal.returns
returns c = plats.one_plat_answer
