use Rattle.twp_read.proofs.OneAnswer as answer
use Rattle.twp_read.proofs.laws.read_has_no_fault.Goals as goal

pub returns : goal.returns
returns c = answer.no_fault
