-- What was put of an explanation, or of a note that was asked for, and of its parts. No public contract cites
-- this module.
use Rattle.std.specs.Prelude.{◌≡◌, ℕ, List, Option, Some, None, Result, Ok, Err}
use Rattle.twp_diagnose.specs.declared.explanation.Explanation.{Explanation}
use Rattle.twp_explain.specs.declared.note.Note.{Note}
use Rattle.twp_calls.specs.Answers.{ACCEPTED, NO_MEMORY, bare}
use Rattle.twp_calls.specs.ExplanationParts.{ArePartsOf, ArePartsOfNote}
use Rattle.twp_calls.specs.Explanations.{IsBareAccepted, IsNotePut, PutsExplanation}
use Rattle.twp_calls.specs.declared.answer.TownshipAnswer.{TownshipAnswer}
use Rattle.twp_calls.specs.declared.explanation.TownshipExplanation.{TownshipExplanation}

-- an explanation was put beside its refusal, and its parts with it; or memory ran out
pub data PutsInParts (refused : TownshipAnswer) (explanation : Explanation) (old new : List ℕ)
    (parts : TownshipExplanation) (answer : TownshipAnswer) : Type 0 where
  put_in_parts : PutsExplanation refused explanation old new answer
      → (answer.verdict ≡ refused.verdict → ArePartsOf explanation parts)
      → PutsInParts refused explanation old new parts answer
  no_parts : answer ≡ bare NO_MEMORY → PutsInParts refused explanation old new parts answer

-- the parts of the note were put, if the note was; or nothing was
abbrev pub NotesInParts : {E : Type 0} → Result (Option Note) E → TownshipExplanation → TownshipExplanation
    → TownshipAnswer → Type 0
NotesInParts (Ok (Some note)) old new answer = answer.verdict ≡ ACCEPTED → ArePartsOfNote note new
NotesInParts (Ok None) old new answer = new ≡ old
NotesInParts (Err fault) old new answer = new ≡ old

-- the note was put beside the verdict that accepts, or there is none, or memory ran out
abbrev pub AnswersNoted : {E : Type 0} → Result (Option Note) E → List ℕ → List ℕ → TownshipAnswer → Type 0
AnswersNoted (Ok (Some note)) old new answer = IsNotePut note old new answer
AnswersNoted (Ok None) old new answer = IsBareAccepted old new answer
AnswersNoted (Err fault) old new answer = answer ≡ bare NO_MEMORY
