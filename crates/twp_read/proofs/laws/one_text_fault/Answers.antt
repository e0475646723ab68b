use Rattle.twp_read.proofs.OneAnswer as answer
use Rattle.twp_read.proofs.laws.one_text_fault.Goals as goal

pub returns : goal.returns
returns c = answer.one_refusal
