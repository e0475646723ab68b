use Rattle.twp_plat.proofs.OneAnswer as answer
use Rattle.twp_plat.proofs.laws.one_area.Goals as goal

pub returns : goal.returns
returns c = answer.one_area
