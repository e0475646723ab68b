use Rattle.twp_read.proofs.Reading as reading
use Rattle.twp_read.proofs.laws.classes_decide.Goals as goal

pub returns : goal.returns
returns c = reading.classes_decide
