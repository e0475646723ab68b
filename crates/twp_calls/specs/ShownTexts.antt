-- The text of an explanation or a note for C: in which text it shows its place, and by which name.
use Rattle.std.specs.Prelude.{◌≡◌, ℕ, List}
use Rattle.twp_diagnose.specs.declared.location.Given.{Given}
use Rattle.twp_diagnose.specs.ShownMessages.{ShowsIn}
use Rattle.twp_explain.specs.ShownNotes.{ShowsNoteIn}
use Rattle.twp_diagnose.specs.declared.explanation.Explanation.{Explanation}
use Rattle.twp_explain.specs.declared.note.Note.{Note}
use Rattle.twp_calls.specs.ExplanationParts.{ArePartsOf, ArePartsOfNote}
use Rattle.twp_calls.specs.Explanations.{IsNotePut, PutsExplanation}
use Rattle.twp_calls.specs.Names.{IsNameOf}
use Rattle.twp_calls.specs.declared.answer.TownshipAnswer.{TownshipAnswer}
use Rattle.twp_calls.specs.declared.explanation.TownshipExplanation.{TownshipExplanation}

-- the file consists of these bytes, in lines from 1, and has the name that was given for it
pub record IsTextGiven (bytes name : List ℕ) (file : Given) : Type 0 where
  pub name_is : IsNameOf name file.name.now
  pub bytes_are : file.bytes.now ≡ bytes
  pub first_line_is : file.first_line ≡ 1

-- Beside the answer was put the text of an explanation that shows the fault in the text that was given: it
-- begins with that text's name, and with the line and the column of the answer.
pub record IsTextShown (bytes name old new : List ℕ) (answer : TownshipAnswer) : Type 0 where
  pub file : Given
  pub file_is : IsTextGiven bytes name file
  pub explanation : Explanation
  pub shows : ShowsIn file explanation
  pub refused : TownshipAnswer
  pub explained_is : PutsExplanation refused explanation old new answer

-- Beside the verdict that accepts was put the text of a note that shows its place in the text that was given:
-- it begins with that text's name, and with the line and the column of the answer.
pub record IsShownNote (bytes name old new : List ℕ) (answer : TownshipAnswer) : Type 0 where
  pub file : Given
  pub file_is : IsTextGiven bytes name file
  pub note : Note
  pub shows : ShowsNoteIn file note
  pub note_put : IsNotePut note old new answer

-- the same, with the parts of the explanation
pub record IsShownInParts (bytes name old new : List ℕ) (parts : TownshipExplanation)
    (answer : TownshipAnswer)
    : Type 0 where
  pub file : Given
  pub file_is : IsTextGiven bytes name file
  pub explanation : Explanation
  pub shows : ShowsIn file explanation
  pub refused : TownshipAnswer
  pub explained_is : PutsExplanation refused explanation old new answer
  pub parts_are : ArePartsOf explanation parts

-- and of the note
pub record IsNotedInParts (bytes name old new : List ℕ) (parts : TownshipExplanation)
    (answer : TownshipAnswer)
    : Type 0 where
  pub file : Given
  pub file_is : IsTextGiven bytes name file
  pub note : Note
  pub shows : ShowsNoteIn file note
  pub note_put : IsNotePut note old new answer
  pub parts_are : ArePartsOfNote note parts
