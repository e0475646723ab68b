-- The answers to tracts, and their figures, as plain data. No public contract cites this module.
use Rattle.std.specs.Prelude.{◌≡◌, ℕ, ◌<◌, ◌≤◌, List, length, take, slice_index_or}
use Rattle.std.specs.List.{SameFrom}
use Rattle.twp_answers.specs.declared.account_figures.TractFigure.{TractFigure}
use Rattle.twp_answers.specs.declared.each_tract.TractAnswer.{TractAnswer}
use Rattle.twp_calls.specs.Answers.{ACCEPTED, NO_ROOM, bare, with_text}
use Rattle.twp_calls.specs.EachCalls.{answer_of_tract}
use Rattle.twp_calls.specs.TractNames.{IsEnded}
use Rattle.twp_calls.specs.declared.account_call.TownshipTract.{TownshipTract}
use Rattle.twp_calls.specs.declared.answer.TownshipAnswer.{TownshipAnswer}
use Rattle.twp_calls.specs.declared.each_call.TownshipTractAnswer.{TownshipTractAnswer}

-- the answer and the name are these, as plain data
pub record IsPlainAnswer (given : TractAnswer) (plain : TownshipTractAnswer) : Type 0 where
  pub answer_is : plain.answer ≡ answer_of_tract given.answer
  pub length_is : plain.name_length ≡ length given.name.bytes
  pub name_is : take plain.name_length plain.name ≡ given.name.bytes
  pub ended : IsEnded plain.name_length plain.name

-- the first answers, up to this number, are these as plain data
abbrev pub ArePlainTo : ℕ → List TractAnswer → List TownshipTractAnswer → Type 0
ArePlainTo count given answers = (index : ℕ) (default : TractAnswer) (other : TownshipTractAnswer)
    → index < count → IsPlainAnswer (slice_index_or given index default) (slice_index_or answers index other)

-- These answers were put at the front of the room, and nothing else was; or there is less room for them.
pub data AreAnswersPut (given : List TractAnswer) (old new : List TownshipTractAnswer)
    (answer : TownshipAnswer) : Type 0 where
  answers_put : length given ≤ length old → length new ≡ length old
      → ArePlainTo (length given) given new → SameFrom old new (length given)
      → answer ≡ with_text (bare ACCEPTED) (length given) → AreAnswersPut given old new answer
  no_answer_room : length old < length given → answer ≡ with_text (bare NO_ROOM) (length given)
      → AreAnswersPut given old new answer

-- the figure and the name are these, as plain data
pub record IsPlainTract (figure : TractFigure) (plain : TownshipTract) : Type 0 where
  pub hundredths_is : plain.hundredths ≡ figure.hundredths
  pub name_is : take plain.name_length plain.name ≡ figure.name.bytes
  pub ended : IsEnded plain.name_length plain.name

-- the first tracts, up to this number, are these as plain data
abbrev pub ArePlainTractsTo : ℕ → List TractFigure → List TownshipTract → Type 0
ArePlainTractsTo count figures tracts = (index : ℕ) (default : TractFigure) (other : TownshipTract)
    → index < count → IsPlainTract (slice_index_or figures index default) (slice_index_or tracts index other)
