-- What is shown of a refused record of a list, and which earlier tract has its name.
use Rattle.std.specs.Prelude.{◌≡◌, ◌≢◌, ℕ, zero, suc, ◌≤◌, ◌<◌, min, List, length, codes}
use Rattle.std.specs.Prelude.{Option, None}
use Rattle.twp_notes.specs.Records.{Fields, field, record_numbered, records_of}
use Rattle.twp_grid.specs.Lands.{Lotting}
use Rattle.twp_grid.specs.Townships.{Designation}
use Rattle.twp_answers.specs.Tracts.{description_in, name_in}
use Rattle.twp_answers.specs.declared.tract_fault.TractFault.{TractFault}
use Rattle.twp_answers.specs.declared.tract_fault.TractFault.TheVariants as fault
use Rattle.twp_diagnose.specs.Origins.{IsFieldAt}
use Rattle.twp_diagnose.specs.RecordFields.{fields_listed, listed_span, number_listed, start_listed}
use Rattle.twp_diagnose.specs.RecordFields.{IsListedAt}
use Rattle.twp_diagnose.specs.declared.location.Given.{Given}
use Rattle.twp_diagnose.specs.declared.listed.Listed.{Listed}
use Rattle.twp_diagnose.specs.declared.location.Location.{Location}
use Rattle.twp_diagnose.specs.declared.explanation.OtherPlace.{OtherPlace}
use Rattle.twp_diagnose.specs.declared.finding.Finding.{Finding}
use Rattle.twp_diagnose.specs.declared.location.Location.TheVariants.{Whole, Line, Field, Part}
use Rattle.twp_diagnose.specs.declared.location.Origin.{Origin}
use Rattle.twp_explain.specs.FoundFaults.{ShowsFound}
use Rattle.twp_explain.specs.Refusals.{DescribeLand}

-- the number of fields of a record, and of the first record of a tract
abbrev pub TRACT_COLUMNS : ℕ
TRACT_COLUMNS = 2

abbrev pub FIRST_TRACT : ℕ
FIRST_TRACT = 2

-- the field at this index is not the heading's; the third is none of its fields, if the first two are right
abbrev pub IsNotOfHeading : Fields → ℕ → Type 0
IsNotOfHeading fields zero = field fields 0 ≢ codes "name"
IsNotOfHeading fields (suc zero) = field fields 1 ≢ codes "description"
IsNotOfHeading fields (suc (suc zero)) =
    (field fields 0 ≡ codes "name") × (field fields 1 ≡ codes "description")
IsNotOfHeading fields (suc (suc (suc more))) = ⊥

-- a field that is not the heading's is shown
pub record ShowsHeading (listed : Listed) (location : Location) : Type 0 where
  pub place : ℕ
  pub fails : IsNotOfHeading (fields_listed listed) place
  pub is_shown : location ≡ Field (listed_span listed place)

-- of the first record a field that is not the heading's is shown; of a record of a tract without two fields,
-- the third field, or the record's end
pub record ShowsRow (listed : Listed) (location : Location) : Type 0 where
  pub heading : number_listed listed ≡ 1 → ShowsHeading listed location
  pub columns : number_listed listed ≢ 1 → length (fields_listed listed) ≢ TRACT_COLUMNS
      → location ≡ Field (listed_span listed (min (length (fields_listed listed)) TRACT_COLUMNS))

-- the record is that of the first tract with this name, of those before the last one; or the last one, if no
-- other has it
pub record IsFirstNamed (rows : List Fields) (name : List ℕ) (last number : ℕ) : Type 0 where
  pub until : number ≤ last
  pub others : (other : ℕ) → FIRST_TRACT ≤ other → other < number
      → name_in (record_numbered rows other) ≢ name
  pub is_tract : number < last → FIRST_TRACT ≤ number
  pub same : number < last → name_in (record_numbered rows number) ≡ name

-- what is shown of a text is shown of its list: on the tract's line, if the text is shown as a whole
abbrev pub place_in_list : Location → Listed → Location
place_in_list Whole listed = Line (start_listed listed)
place_in_list (Line at_) listed = Line at_
place_in_list (Field span) listed = Field span
place_in_list (Part span) listed = Part span

-- the description of a record of a list
abbrev pub description_listed : Listed → List ℕ
description_listed listed = description_in (fields_listed listed)

-- the text is the description of a record, where it is in the list
pub record IsDescriptionOf (listed : Listed) (origin : Origin) : Type 0 where
  pub file_is : origin.file ≡ listed.file
  pub in_its_field : IsFieldAt (listed_span listed 1).start origin

-- a tract's description is refused, and what was found is its own first fault, where it is in the list
pub record IsRefusedTract (lots : Lotting) (township : Designation) (listed : Listed) (finding : Finding)
    : Type 0 where
  pub origin : Origin
  pub origin_is : IsDescriptionOf listed origin
  pub shows : ShowsFound lots origin township (description_listed listed) finding

-- that is shown in the list
pub record ShowsRefusedTract (lots : Lotting) (township : Designation) (listed : Listed) (location : Location)
    (other : Option OtherPlace) : Type 0 where
  pub finding : Finding
  pub is : IsRefusedTract lots township listed finding
  pub location_is : location ≡ place_in_list finding.place listed
  pub other_is : other ≡ finding.other

-- so it is; of a description that names land on the plat, the tract's line is shown
pub data ShowsTract (lots : Lotting) (township : Designation) (listed : Listed) (location : Location)
    (other : Option OtherPlace) : Type 0 where
  refused : ShowsRefusedTract lots township listed location other
      → ShowsTract lots township listed location other
  described : DescribeLand lots township (description_listed listed)
      → location ≡ Line (start_listed listed)
      → other ≡ None → ShowsTract lots township listed location other

-- where a fault of a record is shown in it: a bad heading or tract at the field to blame, a repeated name at
-- the name, a refused description where it is refused, and one tract too many, or one that overlaps, at the
-- record's line
abbrev pub IsShownInRecord : Lotting → Designation → Listed → TractFault → Location → Type 0
IsShownInRecord lots township listed (fault.TractRow number) location = ShowsRow listed location
IsShownInRecord lots township listed (fault.NameRepeated number) location =
    location ≡ Field (listed_span listed 0)
IsShownInRecord lots township listed (fault.TractRefused number inner) location =
    (other : Option OtherPlace) × ShowsTract lots township listed location other
IsShownInRecord lots township listed (fault.TractsOverlap number) location =
    location ≡ Line (start_listed listed)
IsShownInRecord lots township listed fault.TooManyTracts location = location ≡ Line (start_listed listed)
IsShownInRecord lots township listed fault.TractsTooLarge location = location ≡ Line (start_listed listed)
IsShownInRecord lots township listed fault.Memory location = location ≡ Line (start_listed listed)

-- a fault of a list is shown in the record of this number; the list is shown as a whole where there is no
-- such record
pub data ShowsTractFault (tracts : Given) (lots : Lotting) (township : Designation) (is : TractFault)
    (number : ℕ)
    (location : Location) : Type 0 where
  as_a_whole : length (records_of tracts.bytes.now) < number → location ≡ Whole
      → ShowsTractFault tracts lots township is number location
  in_its_record : (listed : Listed) → IsListedAt tracts number listed
      → IsShownInRecord lots township listed is location
      → ShowsTractFault tracts lots township is number location
