use Rattle.twp_read.proofs.OneAnswer as answer
use Rattle.twp_read.proofs.laws.no_stray_in_sentence.Goals as goal

pub returns : goal.returns
returns c = answer.no_stray_in_sentence
