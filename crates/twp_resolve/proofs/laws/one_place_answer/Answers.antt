use Rattle.twp_resolve.proofs.PlaceAnswers as answers
use Rattle.twp_resolve.proofs.laws.one_place_answer.Goals as goal

pub returns : goal.returns
returns c = answers.one_answer
