use Rattle.twp_calls.proofs.OneTownship.{one_part}
use Rattle.twp_calls.proofs.laws.description_is_one_part.Goals as goal

pub returns : goal.returns
returns c = one_part
