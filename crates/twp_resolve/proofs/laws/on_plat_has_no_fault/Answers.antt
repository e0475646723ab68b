use Rattle.twp_resolve.proofs.PlaceAnswers as answers
use Rattle.twp_resolve.proofs.laws.on_plat_has_no_fault.Goals as goal

pub returns : goal.returns
returns c = answers.no_fault
