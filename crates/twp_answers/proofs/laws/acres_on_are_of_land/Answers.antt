use Rattle.twp_answers.proofs.runs.LandAnswers as laws
use Rattle.twp_answers.proofs.laws.acres_on_are_of_land.Goals as goal

pub returns : goal.returns
returns c = laws.acres_on_are_of_land
