use Rattle.twp_measure.proofs.LengthFacts as lengths
use Rattle.twp_measure.proofs.laws.one_length.Goals as goal

pub returns : goal.returns
returns c = lengths.one_length
