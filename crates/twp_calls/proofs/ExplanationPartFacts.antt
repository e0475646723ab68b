-- The parts of an explanation, or of a note, beside its answer; over plain values.
use Rattle.std.proofs.Common.{◌≡◌, ℕ, suc, ◌+◌, ◌<◌, List, ◌∷◌, ◌++◌, length, Option, Some, None}
use Rattle.std.proofs.Common.{Result, Ok, Err, IfOk, IfSome, ap, refl, sym, ◌∙◌, inl, inr, arith}
use Rattle.std.proofs.Common.{length-append}
use Rattle.twp_diagnose.specs.ShownMessages.{ShowsIn}
use Rattle.twp_diagnose.specs.declared.explanation.Explanation.{Explanation}
use Rattle.twp_diagnose.specs.declared.location.Given.{Given}
use Rattle.twp_explain.specs.ShownNotes.{ShowsNoteIn}
use Rattle.twp_explain.specs.declared.note.Note.{Note}
use Rattle.twp_calls.specs.Answers.{ACCEPTED, IsRefused, bare}
use Rattle.twp_calls.specs.Calls.{Answers, IsPut, no_memory, put, not_put}
use Rattle.twp_calls.specs.Explanations.{PutsExplanation, column_at, line_at}
use Rattle.twp_calls.specs.ShownTexts.{IsNotedInParts, IsShownInParts, IsShownNote, IsTextShown, IsTextGiven}
use Rattle.twp_calls.specs.steps.Noting.{AnswersNoted, NotesInParts, PutsInParts, put_in_parts, no_parts}
use Rattle.twp_calls.specs.declared.answer.TownshipAnswer.{TownshipAnswer}
use Rattle.twp_calls.specs.declared.explanation.TownshipExplanation.{TownshipExplanation}
use Rattle.twp_calls.proofs.NoteFacts.{not_accepted}

-- what is put beside a refusal answers it; or memory ran out
pub or_no_memory : (Accepted Refused : TownshipAnswer → Type 0) (refused : TownshipAnswer)
    (explanation : Explanation) (old new : List ℕ) (parts : TownshipExplanation) (answer : TownshipAnswer)
    → PutsInParts refused explanation old new parts answer
    → (PutsExplanation refused explanation old new answer → Answers Accepted Refused answer)
    → Answers Accepted Refused answer
or_no_memory Accepted Refused refused explanation old new parts answer (put_in_parts puts are) answers =
    answers puts
or_no_memory Accepted Refused refused explanation old new parts answer (no_parts is) answers = no_memory is

-- an answer that is refused has its text, and the parts
same_verdict : (refused : TownshipAnswer) (line column : ℕ) (text old new : List ℕ) (answer : TownshipAnswer)
    → IsPut (record refused { line = line; column = column }) text old new answer → IsRefused answer.verdict
    → answer.verdict ≡ refused.verdict
same_verdict refused line column text old new answer (put room new_is answer_is) is =
    ap (λ (a : TownshipAnswer). a.verdict) answer_is
same_verdict refused line column text old new answer (not_put room answer_is) (inl is) =
    absurd (let other : answer.verdict ≡ 5 = ap (λ (a : TownshipAnswer). a.verdict) answer_is in omega arith)
same_verdict refused line column text old new answer (not_put room answer_is) (inr is) =
    absurd (let other : answer.verdict ≡ 5 = ap (λ (a : TownshipAnswer). a.verdict) answer_is in omega arith)

no_refusal : (answer : TownshipAnswer) → answer.verdict ≡ 6 → IsRefused answer.verdict → ⊥
no_refusal answer six (inl is) = omega arith
no_refusal answer six (inr is) = omega arith

pub shown_in_parts : (bytes name old new : List ℕ) (parts : TownshipExplanation)
    (refused answer : TownshipAnswer)
    (file : Given) (explanation : Explanation) → IsTextGiven bytes name file → ShowsIn file explanation
    → PutsInParts refused explanation old new parts answer → IsRefused answer.verdict
    → IsShownInParts bytes name old new parts answer
shown_in_parts bytes name old new parts refused answer file explanation file_is shows
    (put_in_parts puts are) is =
    record {
      file = file;
      file_is = file_is;
      explanation = explanation;
      shows = shows;
      refused = refused;
      explained_is = puts;
      parts_are = are (same_verdict refused _ _ _ old new answer puts is);
    }
shown_in_parts bytes name old new parts refused answer file explanation file_is shows (no_parts none) is =
    absurd (no_refusal answer (ap (λ (a : TownshipAnswer). a.verdict) none) is)

-- what was put beside a refusal, or was not, doesn't accept
pub parts_not_accepted : (refused : TownshipAnswer) (explanation : Explanation) (old new : List ℕ)
    (parts : TownshipExplanation) (answer : TownshipAnswer) → IsRefused refused.verdict
    → PutsInParts refused explanation old new parts answer → answer.verdict ≡ ACCEPTED → ⊥
parts_not_accepted refused explanation old new parts answer is (put_in_parts puts are) accepts =
    not_accepted refused _ _ _ _ _ answer is puts accepts
parts_not_accepted refused explanation old new parts answer is (no_parts none) accepts =
    let six : answer.verdict ≡ 6 = ap (λ (a : TownshipAnswer). a.verdict) none in omega arith

-- the text alone
pub shown_text : (bytes name old new : List ℕ) (parts : TownshipExplanation) (answer : TownshipAnswer)
    → IsShownInParts bytes name old new parts answer → IsTextShown bytes name old new answer
shown_text bytes name old new parts answer it = record {
  file = it.file;
  file_is = it.file_is;
  explanation = it.explanation;
  shows = it.shows;
  refused = it.refused;
  explained_is = it.explained_is;
}

pub shown_note_text : (bytes name old new : List ℕ) (parts : TownshipExplanation) (answer : TownshipAnswer)
    → IsNotedInParts bytes name old new parts answer → IsShownNote bytes name old new answer
shown_note_text bytes name old new parts answer it = record {
  file = it.file;
  file_is = it.file_is;
  note = it.note;
  shows = it.shows;
  note_put = it.note_put;
}

-- a note shows its place in the text that was given, and its parts are put with it
pub noted_in_parts : {E : Type 0} (bytes name old new : List ℕ) (before parts : TownshipExplanation)
    (answer : TownshipAnswer) (file : Given) (explained : Result (Option Note) E)
    → IsTextGiven bytes name file
    → IfOk explained (λ it. IfSome it (ShowsNoteIn file)) → AnswersNoted explained old new answer
    → NotesInParts explained before parts answer
    → answer.verdict ≡ ACCEPTED → 0 < answer.length → IsNotedInParts bytes name old new parts answer
noted_in_parts bytes name old new before parts answer file (Ok (Some note)) file_is shows is are accepts
    longer =
    record {
      file = file;
      file_is = file_is;
      note = note;
      shows = shows;
      note_put = is;
      parts_are = are accepts;
    }
noted_in_parts bytes name old new before parts answer file (Ok None) file_is shows is are accepts longer =
    absurd
    (let none : answer.length ≡ 0 = ap (λ (a : TownshipAnswer). a.length) is.answer_is in omega arith)
noted_in_parts bytes name old new before parts answer file (Err fault) file_is shows is are accepts longer =
    absurd
    (let other : answer.verdict ≡ 6 = ap (λ (a : TownshipAnswer). a.verdict) is in omega arith)

-- the text of a note has at least the line feed that ends its sentence
some_text : (head sentence rest text : List ℕ) → text ≡ head ++ sentence ++ 10 ∷ rest → length text ≡ 0 → ⊥
some_text head sentence rest text is none =
    let size : length text ≡ length (head ++ sentence) + suc (length rest) =
    ap length is ∙ length-append (head ++ sentence) (10 ∷ rest) in
    omega arith

empty_note : (file : Given) (note : Note) (line column : ℕ) (old new : List ℕ)
    (answer refused : TownshipAnswer)
    → ShowsNoteIn file note
    → IsPut (record refused { line = line; column = column }) note.text.bytes.items old new answer
    → refused.verdict ≡ ACCEPTED → answer.verdict ≡ ACCEPTED → answer.length ≡ 0 → ⊥
empty_note file note line column old new answer refused shows (put room new_is answer_is) accepted accepts
    none =
    let message = shows.text_is.text_is.is in
    some_text _ message.sentence _ _ message.text_is
    (sym (ap (λ (a : TownshipAnswer). a.length) answer_is) ∙ none)
empty_note file note line column old new answer refused shows (not_put room answer_is) accepted accepts none =
    let five : answer.verdict ≡ 5 = ap (λ (a : TownshipAnswer). a.verdict) answer_is in omega arith

-- where no text was put, the parts are kept
pub kept_clear : {E : Type 0} (old new : List ℕ) (before parts : TownshipExplanation)
    (answer : TownshipAnswer)
    (file : Given) (explained : Result (Option Note) E)
    → IfOk explained (λ it. IfSome it (ShowsNoteIn file)) → AnswersNoted explained old new answer
    → NotesInParts explained before parts answer
    → answer.verdict ≡ ACCEPTED → answer.length ≡ 0 → parts ≡ before
kept_clear old new before parts answer file (Ok (Some note)) shows is are accepts none =
    absurd
    (empty_note file note (line_at note.spot) (column_at note.spot) old new answer (bare ACCEPTED) shows is
    refl
    accepts none)
kept_clear old new before parts answer file (Ok None) shows is kept accepts none = kept
kept_clear old new before parts answer file (Err fault) shows is kept accepts none = kept
