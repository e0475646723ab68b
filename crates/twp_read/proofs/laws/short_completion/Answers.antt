use Rattle.twp_read.proofs.Reading as reading
use Rattle.twp_read.proofs.laws.short_completion.Goals as goal

pub returns : goal.returns
returns c = reading.short_completion
