-- The answers to many descriptions, which are given as bytes in a row and the offsets between them.
use Rattle.std.specs.Prelude.{◌≡◌, ℕ, ◌+◌, ◌-◌, ◌<◌, ◌≤◌, List, length, slice_index_or, slice_range}
use Rattle.std.specs.List.{SameFrom}
use Rattle.twp_calls.specs.Answers.{ACCEPTED, NO_RANGE, NO_ROOM, bare, with_text}
use Rattle.twp_calls.specs.Calls.{ByAccount, IsAcresCall, OnPlat}
use Rattle.twp_calls.specs.declared.answer.TownshipAnswer.{TownshipAnswer}
use Rattle.twp_calls.specs.declared.plat.TownshipPlat.{TownshipPlat}

-- there are bytes from one offset to the other
abbrev pub IsRange : List ℕ → ℕ → ℕ → Type 0
IsRange bytes start end = (start ≤ end) × (end ≤ length bytes)

-- what a call answers to a description
abbrev pub DescriptionCall : Type 1
DescriptionCall = List ℕ → TownshipAnswer → Type 0

-- The answer to the description between two offsets is that of a call; or it is that no bytes are between
-- them.
pub data IsAnswerBetween (Call : DescriptionCall) (bytes : List ℕ) (start end : ℕ)
    (answer : TownshipAnswer) : Type 0 where
  inside : IsRange bytes start end → Call (slice_range bytes start end) answer
      → IsAnswerBetween Call bytes start end answer
  outside : ¬ IsRange bytes start end → answer ≡ bare NO_RANGE
      → IsAnswerBetween Call bytes start end answer

-- what is returned when each description was answered: the verdict on the basis of the answers, which is a
-- plat and an account, or a lot table
abbrev pub ReturnedVerdict : Type 1
ReturnedVerdict = TownshipAnswer → Type 0

-- the verdict on a plat and an account: both are valid, or it is the verdict on the first that is not
abbrev pub IsBasisVerdict : TownshipPlat → ℕ → ReturnedVerdict
IsBasisVerdict given code = OnPlat given (λ plat. ByAccount code (λ account answer. answer ≡ bare ACCEPTED))

-- the number of descriptions between offsets
abbrev pub count_between : List ℕ → ℕ
count_between offsets = length offsets - 1

-- the first descriptions, up to this number, have these answers
abbrev pub AreManyAnswersTo : (List ℕ → TownshipAnswer → Type 0) → List ℕ → List ℕ → ℕ → List TownshipAnswer
    → Type 0
AreManyAnswersTo Call bytes offsets count answers = (index : ℕ) → index < count
    → IsAnswerBetween Call bytes (slice_index_or offsets index 0) (slice_index_or offsets (index + 1) 0)
    (slice_index_or answers index (bare ACCEPTED))

-- Each description was answered, and nothing else was written. The verdict on the basis is returned, with the
-- number of descriptions.
pub record AreAnswered (Call : DescriptionCall) (Returns : ReturnedVerdict) (bytes offsets : List ℕ)
    (old new : List TownshipAnswer) (answer : TownshipAnswer) : Type 0 where
  pub room : count_between offsets ≤ length old
  pub length_is : length new ≡ length old
  pub answers : AreManyAnswersTo Call bytes offsets (count_between offsets) new
  pub kept : SameFrom old new (count_between offsets)
  pub returned : TownshipAnswer
  pub returned_is : Returns returned
  pub answer_is : answer ≡ with_text returned (count_between offsets)

-- Each description is answered, or there is less room than there are descriptions.
pub data IsManyAnswer (Call : DescriptionCall) (Returns : ReturnedVerdict) (bytes offsets : List ℕ)
    (old new : List TownshipAnswer) (answer : TownshipAnswer) : Type 0 where
  answered : AreAnswered Call Returns bytes offsets old new answer
      → IsManyAnswer Call Returns bytes offsets old new answer
  no_room : length old < count_between offsets
      → answer ≡ with_text (bare NO_ROOM) (count_between offsets)
      → IsManyAnswer Call Returns bytes offsets old new answer

-- `township_acres_many`: each is answered as by `township_acres`, even if the plat or the account is not
-- valid
abbrev pub IsManyCall : TownshipPlat → List ℕ → List ℕ → ℕ → List TownshipAnswer → List TownshipAnswer
    → TownshipAnswer → Type 0
IsManyCall given bytes offsets code old new =
    IsManyAnswer (λ description. IsAcresCall given description code) (IsBasisVerdict given code) bytes offsets
    old new
