use Rattle.twp_answers.proofs.runs.LandAnswers as laws
use Rattle.twp_answers.proofs.laws.text_of_land_is_its_description.Goals as goal

pub returns : goal.returns
returns c = laws.text_of_land_is_its_description
