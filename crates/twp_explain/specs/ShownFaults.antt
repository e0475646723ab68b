-- In which file an explanation shows the fault.
use Rattle.twp_answers.specs.Answers.{MakePlat, IsNoPlat}
use Rattle.twp_diagnose.specs.ShownMessages.{ShowsIn}
use Rattle.twp_diagnose.specs.declared.explanation.Explanation.{Explanation}
use Rattle.twp_diagnose.specs.declared.location.Given.{Given}

-- A fault of the notes is shown in the notes, and one of what is laid on their plat in that text.
pub data ShowsFault (notes text : Given) (explanation : Explanation) : Type 0 where
  in_the_notes : IsNoPlat notes.bytes.now explanation.refusal → ShowsIn notes explanation
      → ShowsFault notes text explanation
  in_the_text : MakePlat notes.bytes.now → ShowsIn text explanation → ShowsFault notes text explanation
