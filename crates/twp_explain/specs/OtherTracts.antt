-- The other place that an explanation of a list names: the tract that had the name, or the land, before.
use Rattle.std.specs.Prelude.{◌≡◌, ℕ, Bool, Option, None, IfSome, length, ◌<◌}
use Rattle.twp_grid.specs.Lands.{Lotting}
use Rattle.twp_grid.specs.Townships.{Designation}
use Rattle.twp_notes.specs.Records.{records_of}
use Rattle.twp_answers.specs.Tracts.{name_in}
use Rattle.twp_answers.specs.declared.tract_fault.TractFault.{TractFault}
use Rattle.twp_answers.specs.declared.tract_fault.TractFault.TheVariants as fault
use Rattle.twp_diagnose.specs.RecordFields.{IsListedAt, fields_listed, listed_span, number_listed}
use Rattle.twp_diagnose.specs.declared.explanation.OtherPlace.{OtherPlace}
use Rattle.twp_diagnose.specs.declared.location.Given.{Given}
use Rattle.twp_diagnose.specs.declared.listed.Listed.{Listed}
use Rattle.twp_diagnose.specs.declared.location.Location.{Location}
use Rattle.twp_explain.specs.BlamedTracts.{IsFirstNamed, ShowsTract}
use Rattle.twp_explain.specs.steps.Sharing.{IsFirstSharingRecord}

-- the other place is this field of an earlier record of the list
pub record IsFieldOf (earlier : Listed) (place : ℕ) (other : OtherPlace) : Type 0 where
  pub number_is : other.number ≡ number_listed earlier
  pub span_is : other.span ≡ listed_span earlier place

-- the other place is the name of the first tract that has the name of a record
pub record IsNamedBefore (listed : Listed) (other : OtherPlace) : Type 0 where
  pub earlier : Listed
  pub listed_is : IsListedAt listed.file other.number earlier
  pub field_is : IsFieldOf earlier 0 other
  pub first : IsFirstNamed (records_of listed.file.bytes.now) (name_in (fields_listed listed))
      (number_listed listed) other.number

-- the other place is the description of the first tract that shares land with a record's
pub record IsSharedBefore (lots : Lotting) (township : Designation) (listed : Listed) (other : OtherPlace)
    : Type 0 where
  pub earlier : Listed
  pub common : ℕ → ℕ → ℕ → Bool
  pub first : IsFirstSharingRecord lots township listed earlier common
  pub field_is : IsFieldOf earlier 1 other

-- the other place of a fault of a record: of a repeated name and of an overlap, that of the earlier tract; of
-- a description that is refused, its own; and no other fault has one
abbrev pub IsOtherInRecord : Lotting → Designation → Listed → TractFault → Option OtherPlace → Type 0
IsOtherInRecord lots township listed (fault.NameRepeated number) other = IfSome other (IsNamedBefore listed)
IsOtherInRecord lots township listed (fault.TractsOverlap number) other =
    IfSome other (IsSharedBefore lots township listed)
IsOtherInRecord lots township listed (fault.TractRefused number inner) other =
    (location : Location) × ShowsTract lots township listed location other
IsOtherInRecord lots township listed (fault.TractRow number) other = other ≡ None
IsOtherInRecord lots township listed fault.TooManyTracts other = other ≡ None
IsOtherInRecord lots township listed fault.TractsTooLarge other = other ≡ None
IsOtherInRecord lots township listed fault.Memory other = other ≡ None

-- the other place of a fault of a list is that of the fault of the record of this number
pub data IsOtherTract (tracts : Given) (lots : Lotting) (township : Designation) (is : TractFault)
    (number : ℕ)
    (other : Option OtherPlace) : Type 0 where
  of_none : length (records_of tracts.bytes.now) < number → other ≡ None
      → IsOtherTract tracts lots township is number other
  of_its_record : (listed : Listed) → IsListedAt tracts number listed
      → IsOtherInRecord lots township listed is other → IsOtherTract tracts lots township is number other
