-- Everything that is answered about many descriptions, which are given as bytes in a row and the offsets
-- between them.
use Rattle.std.specs.Prelude.{◌≡◌, ◌≢◌, ℕ, ◌+◌, ◌<◌, ◌≤◌, List, [], length, slice_index_or, slice_range}
use Rattle.std.specs.List.{SameFrom}
use Rattle.twp_calls.specs.Answers.{ACCEPTED, NO_RANGE, NO_ROOM, bare, with_text}
use Rattle.twp_calls.specs.Calls.{IsAcresCall, IsNormalCall}
use Rattle.twp_calls.specs.Explanations.{ExplainsDescription}
use Rattle.twp_calls.specs.ManyAnswers.{IsBasisVerdict, IsRange, ReturnedVerdict, count_between}
use Rattle.twp_calls.specs.declared.answer.TownshipAnswer.{TownshipAnswer}
use Rattle.twp_calls.specs.declared.plat.TownshipPlat.{TownshipPlat}
use Rattle.twp_calls.specs.declared.full_answer.TownshipFullAnswer.{TownshipFullAnswer}

-- What the calls for one description answer: its acres; its canonical text, which is put over an old one; and
-- its explanation, or the note on it, which is put over another. And the verdict on the basis of the answers.
pub record DescriptionCalls : Type 1 where
  pub acres : List ℕ → TownshipAnswer → Type 0
  pub normal : List ℕ → List ℕ → List ℕ → TownshipAnswer → Type 0
  pub explains : List ℕ → List ℕ → List ℕ → TownshipAnswer → Type 0
  pub returns : ReturnedVerdict

-- `township_acres`, `township_normal`, and `township_explain_description`; and the verdict on the plat and
-- the account
abbrev pub calls_on : TownshipPlat → ℕ → DescriptionCalls
calls_on given code = record {
  acres = λ description. IsAcresCall given description code;
  normal = λ description. IsNormalCall given description;
  explains = λ description. ExplainsDescription given description;
  returns = IsBasisVerdict given code;
}

-- the answer of the call that explains, which has no room to write in
pub record ExplainsWithoutRoom (calls : DescriptionCalls) (description : List ℕ) (answer : TownshipAnswer)
    : Type 0 where
  pub rest : List ℕ
  pub explains : calls.explains description [] rest answer

-- The answers about a description are those of the calls for one description. If it is not accepted, it has
-- no note.
pub record AreOfDescription (calls : DescriptionCalls) (description : List ℕ)
    (old new : TownshipFullAnswer) : Type 0 where
  pub acres : calls.acres description new.acres
  pub normal : calls.normal description old.text new.text new.normal
  pub note : new.acres.verdict ≡ ACCEPTED → ExplainsWithoutRoom calls description new.note
  pub no_note : new.acres.verdict ≢ ACCEPTED → new.note ≡ new.acres

-- each answer is that no bytes are between the offsets
pub record AreOfNoRange (old new : TownshipFullAnswer) : Type 0 where
  pub acres : new.acres ≡ bare NO_RANGE
  pub normal : new.normal ≡ bare NO_RANGE
  pub note : new.note ≡ bare NO_RANGE
  pub text : new.text ≡ old.text

-- The answers are about the description between two offsets; or no bytes are between them.
pub data AreBetween (calls : DescriptionCalls) (bytes : List ℕ) (start end : ℕ)
    (old new : TownshipFullAnswer) : Type 0 where
  inside : IsRange bytes start end
      → AreOfDescription calls (slice_range bytes start end) old new
      → AreBetween calls bytes start end old new
  outside : ¬ IsRange bytes start end → AreOfNoRange old new
      → AreBetween calls bytes start end old new

-- the first descriptions, up to this number, have these answers
abbrev pub AreFullAnswersTo : DescriptionCalls → List ℕ → List ℕ → ℕ → List TownshipFullAnswer
    → List TownshipFullAnswer → Type 0
AreFullAnswersTo calls bytes offsets count old new = (index : ℕ) → index < count
    → (default : TownshipFullAnswer)
    → AreBetween calls bytes (slice_index_or offsets index 0) (slice_index_or offsets (index + 1) 0)
    (slice_index_or old index default) (slice_index_or new index default)

-- Each description was answered, and nothing else was written. The verdict on the basis is returned, with the
-- number of descriptions.
pub record AreFullAnswers (calls : DescriptionCalls) (bytes offsets : List ℕ)
    (old new : List TownshipFullAnswer) (answer : TownshipAnswer) : Type 0 where
  pub room : count_between offsets ≤ length old
  pub length_is : length new ≡ length old
  pub answers : AreFullAnswersTo calls bytes offsets (count_between offsets) old new
  pub kept : SameFrom old new (count_between offsets)
  pub returned : TownshipAnswer
  pub returned_is : calls.returns returned
  pub answer_is : answer ≡ with_text returned (count_between offsets)

-- Each description is answered, or there is less room than there are descriptions.
pub data IsFullAnswer (calls : DescriptionCalls) (bytes offsets : List ℕ)
    (old new : List TownshipFullAnswer) (answer : TownshipAnswer) : Type 0 where
  answered : AreFullAnswers calls bytes offsets old new answer
      → IsFullAnswer calls bytes offsets old new answer
  no_room : length old < count_between offsets
      → answer ≡ with_text (bare NO_ROOM) (count_between offsets)
      → IsFullAnswer calls bytes offsets old new answer

-- `township_answer_many`: each is answered, even if the plat or the account is not valid
abbrev pub IsFullCall : TownshipPlat → List ℕ → List ℕ → ℕ → List TownshipFullAnswer → List TownshipFullAnswer
    → TownshipAnswer → Type 0
IsFullCall given bytes offsets code old new = IsFullAnswer (calls_on given code) bytes offsets old new
