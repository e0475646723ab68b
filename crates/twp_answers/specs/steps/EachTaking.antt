-- How the tracts of a list are answered one after another. No public contract cites this module.
use Rattle.std.specs.Prelude.{◌≡◌, ◌≢◌, ℕ, ◌+◌, ◌<◌, List, length, true, Bool, MatchBool, ⊤, Result, Ok, Err}
use Rattle.twp_notes.specs.Records.{Fields, record_at}
use Rattle.twp_grid.specs.declared.refusal.Refusal.{Refusal}
use Rattle.twp_answers.specs.EachTract.{DescriptionAnswers, IsAnswerAt}
use Rattle.twp_answers.specs.Names.{has_name}
use Rattle.twp_answers.specs.Tracts.{TRACTS_MOST, tracts_heading, name_in, IsTractName}
use Rattle.twp_answers.specs.TractFaults.{IsNameRepeated}
use Rattle.twp_answers.specs.declared.each_tract.TractAnswer.{TractAnswer}
use Rattle.twp_answers.specs.declared.names.NamesSoFar.{NamesSoFar}
use Rattle.twp_answers.specs.declared.tract_fault.TractFault.{TractFault}
use Rattle.twp_answers.specs.declared.tract_fault.TractFault.TheVariants as fault

-- the set contains the names of the first records, up to this number, as far as tracts can have them
pub record AreNamesOf (rows : List Fields) (count : ℕ) (names : NamesSoFar) : Type 0 where
  pub named : (index : ℕ) → index < count → IsTractName (name_in (record_at rows index))
      → has_name names (name_in (record_at rows index)) ≡ true
  pub only : (name : List ℕ) → has_name names name ≡ true
      → (index : ℕ) × (index < count) × (name_in (record_at rows index) ≡ name)

-- the name of the record was added, and this says whether no earlier record has it
pub record TakesName (fields : Fields) (old new : NamesSoFar) (said : Bool) : Type 0 where
  pub names : (rows : List Fields) (index : ℕ) → record_at rows index ≡ fields → AreNamesOf rows index old
      → AreNamesOf rows (index + 1) new
  pub is_new : (rows : List Fields) (index : ℕ) → record_at rows index ≡ fields → AreNamesOf rows index old
      → IsTractName (name_in fields)
      → MatchBool said (¬ IsNameRepeated rows index) (IsNameRepeated rows index)

-- the record with this number was answered
pub record TakesRecord (Has : DescriptionAnswers) (fields : Fields) (number : ℕ) (old new : NamesSoFar)
    (given : TractAnswer)
    : Type 0 where
  pub names : (rows : List Fields) (index : ℕ) → record_at rows index ≡ fields → AreNamesOf rows index old
      → AreNamesOf rows (index + 1) new
  pub answer : (rows : List Fields) (index : ℕ) → record_at rows index ≡ fields → AreNamesOf rows index old
      → number ≡ index + 2 → IsAnswerAt Has rows index given

-- the first record is not the heading, or is missing, or memory ran out
abbrev pub HasNoHeadingIn : List Fields → TractFault → Type 0
HasNoHeadingIn rows (fault.TractRow number) = (number ≡ 1) × (record_at rows 0 ≢ tracts_heading)
HasNoHeadingIn rows fault.Memory = ⊤
HasNoHeadingIn rows other = ⊥

-- there is one tract too many, or memory ran out
abbrev pub StopsTaking : List Fields → TractFault → Type 0
StopsTaking rows fault.TooManyTracts = TRACTS_MOST < length rows
StopsTaking rows fault.Memory = ⊤
StopsTaking rows other = ⊥

-- the description has this answer, whose refusal is a fault of the record
abbrev pub AnswersLand : (List ℕ → Result ℕ Refusal → Type 0) → List ℕ → ℕ → Result ℕ TractFault → Type 0
AnswersLand Has description number (Ok hundredths) = Has description (Ok hundredths)
AnswersLand Has description number (Err (fault.TractRefused at_ inner)) =
    (at_ ≡ number) × Has description (Err inner)
AnswersLand Has description number (Err other) = ⊥
