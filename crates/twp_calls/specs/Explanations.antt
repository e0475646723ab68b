-- What the calls answer that explain refusals: the refusal as the other calls answer it, and beside it the
-- line, the column and the text of an explanation of that refusal; or, of an accepted text, those of a note
-- on its first doubtful place.
use Rattle.std.specs.Prelude.{◌≡◌, ◌≢◌, ℕ, List, Option, Some, None, min, length, drop}
use Rattle.std.specs.List.{AllPass}
use Rattle.twp_excerpt.specs.Spots.{line_of, column_of, is_white, end_of}
use Rattle.twp_excerpt.specs.declared.spot.Spot.{Spot}
use Rattle.twp_grid.specs.Townships.{Designation}
use Rattle.twp_grid.specs.declared.refusal.Refusal.{Refusal}
use Rattle.twp_measure.specs.Areas.{Fraction}
use Rattle.twp_plat.specs.Plats.{SurveyPlat}
use Rattle.twp_plat.specs.declared.land_area.Account.TheVariants.{Exact}
use Rattle.twp_answers.specs.Answers.{ArePlatted, IsNoPlat, IsNoDescription}
use Rattle.twp_answers.specs.OnPlats.{HasAreaOn}
use Rattle.twp_answers.specs.ReportAnswers.{IsAccountOf}
use Rattle.twp_answers.specs.TractFaults.{IsFirstTractFault, refusal_of, verdict_of}
use Rattle.twp_answers.specs.declared.tract_fault.TractFault.{TractFault}
use Rattle.twp_answers.specs.declared.stop.Verdict.{Verdict}
use Rattle.twp_read.specs.Doubts.{HasNoDoubtfulPlace}
use Rattle.twp_sentences.specs.ShownPlaces.{TOO_LARGE}
use Rattle.twp_explain.specs.ShownNotes.{IsOfFirst}
use Rattle.twp_diagnose.specs.declared.explanation.Explanation.{Explanation}
use Rattle.twp_explain.specs.declared.note.Note.{Note}
use Rattle.twp_calls.specs.Answers.{ACCEPTED, IsRefused, bare, refused, verdict_answer}
use Rattle.twp_calls.specs.Calls.{Answers, IsPut, OnPlat}
use Rattle.twp_calls.specs.declared.answer.TownshipAnswer.{TownshipAnswer}
use Rattle.twp_calls.specs.declared.plat.TownshipPlat.{TownshipPlat}
use Rattle.twp_grid.specs.Lands.{Lotting, STANDARD_LOTS}

-- an answer with a line and a column
abbrev pub located_at : TownshipAnswer → ℕ → ℕ → TownshipAnswer
located_at explained line column = record explained { line = line; column = column }

-- the line and the column where a fault is; 0 where it is at no one place
abbrev pub line_at : Option Spot → ℕ
line_at None = 0
line_at (Some spot) = spot.line

abbrev pub column_at : Option Spot → ℕ
column_at None = 0
column_at (Some spot) = spot.column

-- a text was put beside the answer, with the line and the column of its spot
abbrev pub IsPutAt : TownshipAnswer → Option Spot → List ℕ → List ℕ → List ℕ → TownshipAnswer → Type 0
IsPutAt explained spot text old new =
    IsPut (located_at explained (line_at spot) (column_at spot)) text old new

-- the text of an explanation was put beside the answer, with its line and column
abbrev pub PutsExplanation : TownshipAnswer → Explanation → List ℕ → List ℕ → TownshipAnswer → Type 0
PutsExplanation explained explanation old new =
    IsPutAt explained explanation.spot explanation.text.bytes.items old new

-- the text of a note was put beside the verdict that accepts, with its line and column
abbrev pub IsNotePut : Note → List ℕ → List ℕ → TownshipAnswer → Type 0
IsNotePut note old new = IsPutAt (bare ACCEPTED) note.spot note.text.bytes.items old new

-- the verdict accepts, and nothing was put beside it
pub record IsBareAccepted (old new : List ℕ) (answer : TownshipAnswer) : Type 0 where
  pub answer_is : answer ≡ bare ACCEPTED
  pub kept : new ≡ old

-- Of an accepted description: where it has a doubtful place, a note on the first one was put beside the
-- verdict; where it has none, nothing was.
pub data IsNoted (text old new : List ℕ) (answer : TownshipAnswer) : Type 0 where
  clear : HasNoDoubtfulPlace text → IsBareAccepted old new answer → IsNoted text old new answer
  noted : (note : Note) → IsOfFirst text note → IsNotePut note old new answer
      → IsNoted text old new answer

-- of an accepted list, a note was put beside the verdict, or nothing was
pub data IsListNoted (old new : List ℕ) (answer : TownshipAnswer) : Type 0 where
  clear_list : IsBareAccepted old new answer → IsListNoted old new answer
  noted_list : (note : Note) → IsNotePut note old new answer → IsListNoted old new answer

-- the verdict is neither one that accepts nor one of a refusal: nothing is written
abbrev pub HasNoText : ℕ → Type 0
HasNoText verdict = (verdict ≢ ACCEPTED) × ¬ IsRefused verdict

-- an explanation of such a refusal was put there
pub record IsExplained (IsSuch : Refusal → Type 0) (explained : TownshipAnswer) (old new : List ℕ)
    (answer : TownshipAnswer) : Type 0 where
  pub explanation : Explanation
  pub is_such : IsSuch explanation.refusal
  pub explained_is : PutsExplanation explained explanation old new answer

-- the refusal of the first fault is explained
pub record IsExplainedRefusal (HasFirst : Refusal → Type 0) (old new : List ℕ)
    (answer : TownshipAnswer) : Type 0 where
  pub refusal : Refusal
  pub first : HasFirst refusal
  pub explained : IsExplained HasFirst (refused refusal) old new answer

-- the refusal is that of the first fault of the list
pub record IsOfFirstFault (plat : SurveyPlat) (list : List ℕ) (refusal : Refusal) : Type 0 where
  pub fault : TractFault
  pub first : IsFirstTractFault STANDARD_LOTS plat.township list fault
  pub refusal_is : refusal_of fault ≡ Some refusal

-- `township_explain_notes`: of notes that make a plat nothing is explained
pub record IsOfPlat (notes : List ℕ) (answer : TownshipAnswer) : Type 0 where
  pub plat : SurveyPlat
  pub platted : ArePlatted notes plat
  pub answer_is : answer ≡ bare ACCEPTED

abbrev pub ExplainsNotes : List ℕ → List ℕ → List ℕ → TownshipAnswer → Type 0
ExplainsNotes notes old new =
    Answers (IsOfPlat notes) (IsExplainedRefusal (IsNoPlat notes) old new)

-- `township_explain_description`: of a description that has an area on the plat, its first doubtful place is
-- noted
pub record IsOfArea (plat : SurveyPlat) (description old new : List ℕ) (answer : TownshipAnswer)
    : Type 0 where
  pub area : Fraction
  pub has : HasAreaOn plat description Exact area
  pub is_noted : IsNoted description old new answer

-- This is the line and the column of a place in a text, or of the text's end.
pub record IsLineAndColumn (text : List ℕ) (at line column : ℕ) : Type 0 where
  pub line_is : line ≡ line_of text (min at (length text))
  pub column_is : column ≡ column_of text (min at (length text))

-- The line and the column where a description is refused: those of the refusal's place, or, if only
-- white space follows, of the end of the text before that white space. Of a description that is too
-- large nothing is said.
pub data IsWhereRefused (text : List ℕ) (refusal : Refusal) (line column : ℕ) : Type 0 where
  too_large : refusal.number ≡ TOO_LARGE → IsWhereRefused text refusal line column
  at_its_place : IsLineAndColumn text refusal.at line column → IsWhereRefused text refusal line column
  at_the_end : AllPass is_white (drop refusal.at text) → IsLineAndColumn text (end_of text) line column
      → IsWhereRefused text refusal line column

-- the refusal of the description on the plat with these lots is explained, with the line and the column of
-- its place
pub record IsExplainedDescription (lots : Lotting) (township : Designation)
    (description old new : List ℕ) (answer : TownshipAnswer) : Type 0 where
  pub explained : IsExplainedRefusal (IsNoDescription lots township description) old new answer
  pub place : IsWhereRefused description explained.refusal answer.line answer.column

abbrev pub ExplainsDescription : TownshipPlat → List ℕ → List ℕ → List ℕ → TownshipAnswer → Type 0
ExplainsDescription given description old new = OnPlat given (λ plat.
    Answers (IsOfArea plat description old new)
    (IsExplainedDescription STANDARD_LOTS plat.township description old new))

-- `township_explain_list`: of a list that has an account on the plat, there may be a note
pub record IsOfAccount (plat : SurveyPlat) (list old new : List ℕ) (answer : TownshipAnswer)
    : Type 0 where
  pub text : List ℕ
  pub has : IsAccountOf plat list text
  pub is_noted : IsListNoted old new answer

pub record IsExplainedFault (plat : SurveyPlat) (list old new : List ℕ) (answer : TownshipAnswer)
    : Type 0 where
  pub fault : TractFault
  pub first : IsFirstTractFault STANDARD_LOTS plat.township list fault
  pub verdict : Verdict
  pub verdict_is : verdict_of fault ≡ Some verdict
  pub explained : IsExplained (IsOfFirstFault plat list) (verdict_answer verdict) old new answer

abbrev pub ExplainsList : TownshipPlat → List ℕ → List ℕ → List ℕ → TownshipAnswer → Type 0
ExplainsList given list old new = OnPlat given (λ plat.
    Answers (IsOfAccount plat list old new) (IsExplainedFault plat list old new))
