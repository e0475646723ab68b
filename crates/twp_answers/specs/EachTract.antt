-- The answer to each tract of a list, whatever is wrong with the others. That two tracts overlap is no part
-- of it.
use Rattle.std.specs.Prelude.{◌≡◌, ◌≢◌, ℕ, ◌+◌, ◌≤◌, ◌<◌, List, [], length, slice_index_or}
use Rattle.std.specs.Prelude.{Result, Ok, Err, ⊤}
use Rattle.twp_grid.specs.Townships.{Designation}
use Rattle.twp_notes.specs.Records.{Fields, record_at, record_numbered, records_of}
use Rattle.twp_plat.specs.Plats.{SurveyPlat}
use Rattle.twp_plat.specs.declared.land_area.Account.TheVariants.{Exact}
use Rattle.twp_plat.specs.declared.lots.returned.ReturnedLots.{ReturnedLots}
use Rattle.twp_grid.specs.declared.refusal.Refusal.{Refusal}
use Rattle.twp_answers.specs.Answers.{IsNoDescription}
use Rattle.twp_answers.specs.LotLands.{HasLotAcresOf, HasNoLotAreaOf}
use Rattle.twp_answers.specs.OnPlats.{HasAcresOn}
use Rattle.twp_answers.specs.Tracts.{TRACTS_LIMIT, TRACTS_MOST, tracts_heading, tract_records}
use Rattle.twp_answers.specs.Tracts.{name_in, description_in, IsTractRecord}
use Rattle.twp_answers.specs.TractFaults.{IsNameRepeated, turn_of}
use Rattle.twp_answers.specs.declared.each_tract.TractAnswer.{TractAnswer}
use Rattle.twp_answers.specs.declared.tract_fault.TractFault.{TractFault}
use Rattle.twp_answers.specs.declared.tract_fault.TractFault.TheVariants as fault
use Rattle.twp_grid.specs.Lands.{STANDARD_LOTS}

-- Which answers a description has: the hundredths of an acre of its land, or its refusal.
abbrev pub DescriptionAnswers : Type 1
DescriptionAnswers = List ℕ → Result ℕ Refusal → Type 0

-- on a plat, the exact area of its land is rounded once, half up
abbrev pub AnswersOnPlat : SurveyPlat → List ℕ → Result ℕ Refusal → Type 0
AnswersOnPlat plat description (Ok hundredths) = HasAcresOn plat description Exact hundredths
AnswersOnPlat plat description (Err refusal) =
    IsNoDescription STANDARD_LOTS plat.township description refusal

-- so is its area by a lot table, which refuses it also if it lacks a lot of its land
abbrev pub AnswersByTable : Designation → ReturnedLots → List ℕ → Result ℕ Refusal → Type 0
AnswersByTable township lots description (Ok hundredths) = HasLotAcresOf township lots description hundredths
AnswersByTable township lots description (Err refusal) = HasNoLotAreaOf township lots description refusal

-- the tract at the index has the fault by itself, if its description has these answers
abbrev pub HasAlone : (List ℕ → Result ℕ Refusal → Type 0) → List Fields → ℕ → TractFault → Type 0
HasAlone Has rows index (fault.TractRow number) =
    (number ≡ index + 2) × ¬ IsTractRecord (record_at rows index)
HasAlone Has rows index (fault.NameRepeated number) = (number ≡ index + 2) × IsNameRepeated rows index
HasAlone Has rows index (fault.TractRefused number inner) = (number ≡ index + 2)
    × Has (description_in (record_at rows index)) (Err inner)
HasAlone Has rows index other = ⊥

-- it has the fault by itself, and none of those that are checked before it
pub record HasOwnFault (Has : DescriptionAnswers) (rows : List Fields) (index : ℕ)
    (tract_fault : TractFault) : Type 0 where
  pub has : HasAlone Has rows index tract_fault
  pub first : (other : TractFault) → HasAlone Has rows index other
      → turn_of tract_fault ≤ turn_of other

-- the tract at the index has a name that no earlier one has, and these are the hundredths of an acre of its
-- land
pub record HasOwnAcres (Has : DescriptionAnswers) (rows : List Fields) (index hundredths : ℕ)
    : Type 0 where
  pub is_record : IsTractRecord (record_at rows index)
  pub is_new : ¬ IsNameRepeated rows index
  pub acres : Has (description_in (record_at rows index)) (Ok hundredths)

-- the acres of the tract at the index, or its fault
abbrev pub IsOfTract : (List ℕ → Result ℕ Refusal → Type 0) → List Fields → ℕ → Result ℕ TractFault → Type 0
IsOfTract Has rows index (Ok hundredths) = HasOwnAcres Has rows index hundredths
IsOfTract Has rows index (Err tract_fault) = HasOwnFault Has rows index tract_fault

-- the answer to the tract at the index, with its name, which is empty if the record is not a tract's
pub record IsAnswerAt (Has : DescriptionAnswers) (rows : List Fields) (index : ℕ) (given : TractAnswer)
    : Type 0 where
  pub answer_is : IsOfTract Has rows index given.answer
  pub name_is : IsTractRecord (record_at rows index) → given.name.bytes ≡ name_in (record_at rows index)
  pub no_name : ¬ IsTractRecord (record_at rows index) → given.name.bytes ≡ []

-- these are the answers to the first tracts, up to this number
pub record AreAnswersTo (Has : DescriptionAnswers) (rows : List Fields) (count : ℕ)
    (answers : List TractAnswer) : Type 0 where
  pub count_is : length answers ≡ count
  pub each : (index : ℕ) (default : TractAnswer) → index < count
      → IsAnswerAt Has rows index (slice_index_or answers index default)

-- the bytes are a heading and records of tracts, not too many
pub record IsListOfRecords (bytes : List ℕ) : Type 0 where
  pub size : length bytes ≤ TRACTS_LIMIT
  pub heading_is : record_numbered (records_of bytes) 1 ≡ tracts_heading
  pub few : length (tract_records bytes) ≤ TRACTS_MOST

-- why the tracts are not answered: the list is too large, has no heading, or has too many tracts
abbrev pub IsListFault : List ℕ → TractFault → Type 0
IsListFault bytes fault.TractsTooLarge = TRACTS_LIMIT < length bytes
IsListFault bytes (fault.TractRow number) = (number ≡ 1) × (length bytes ≤ TRACTS_LIMIT)
    × (record_numbered (records_of bytes) 1 ≢ tracts_heading)
IsListFault bytes fault.TooManyTracts = (length bytes ≤ TRACTS_LIMIT)
    × (record_numbered (records_of bytes) 1 ≡ tracts_heading) × (TRACTS_MOST < length (tract_records bytes))
IsListFault bytes fault.Memory = ⊤
IsListFault bytes other = ⊥
