use Rattle.twp_answers.proofs.runs.OwnText as own
use Rattle.twp_answers.proofs.laws.normal_text_is_its_own.Goals as goal

pub returns : goal.returns
returns c = own.is_its_own
