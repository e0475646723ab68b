use Rattle.twp_answers.proofs.runs.OwnText as own
use Rattle.twp_answers.proofs.laws.long_normal_text_is_refused.Goals as goal

pub returns : goal.returns
returns c = own.long_is_refused
