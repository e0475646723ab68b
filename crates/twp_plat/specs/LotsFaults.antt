-- What can be wrong with a lot table, with each fault as a statement about all its records, and
-- which fault is reported.
use Rattle.std.specs.Prelude.{◌≡◌, ◌≢◌, ◌⊎◌, ℕ, ◌+◌, ◌*◌, ◌≤◌, ◌<◌, List, [], length, take, Option, Some}
use Rattle.std.specs.Prelude.{None}
use Rattle.std.specs.Prelude.{IfSome, Result, Ok, Err}
use Rattle.std.specs.Option.{option_map_or}
use Rattle.twp_grid.specs.declared.refusal.Refusal.{Refusal}
use Rattle.twp_notes.specs.Records.{Fields, field, records_of, record_numbered}
use Rattle.twp_notes.specs.FieldNotes.{FIELDS, IsTownshipRecord}
use Rattle.twp_plat.specs.LotDates.{IsDateText}
use Rattle.twp_plat.specs.declared.lots.table.LotTable.{LotTable}
use Rattle.twp_plat.specs.LotRecords.{LOTS_TEXT_MOST, LOT_FIELDS, lots_heading, HasNoAcres}
use Rattle.twp_plat.specs.LotRecords.{NamesLot, IsRowNumber}
use Rattle.twp_plat.specs.LandRecords.{land_heading}
use Rattle.twp_plat.specs.LandFaults.{HasLandFault}
use Rattle.twp_plat.specs.LotTexts.{IsLotTable}
use Rattle.twp_plat.specs.declared.lots.fault.LotsFault.{LotsFault}
use Rattle.twp_plat.specs.declared.lots.fault.LotsFault.TheVariants as fault

-- the number and the place of each fault: a length in bytes, or a record's number
abbrev pub refusal_of : LotsFault → Option Refusal
refusal_of fault.TooLarge = Some (record { number = 86; at = LOTS_TEXT_MOST })
refusal_of fault.Empty = Some (record { number = 87; at = 1 })
refusal_of fault.Heading = Some (record { number = 88; at = 1 })
refusal_of (fault.Columns record_number) = Some (record { number = 89; at = record_number })
refusal_of fault.Township = Some (record { number = 90; at = 2 })
refusal_of (fault.NoLot record_number) = Some (record { number = 91; at = record_number })
refusal_of (fault.Acres record_number) = Some (record { number = 92; at = record_number })
refusal_of (fault.Repeated record_number) = Some (record { number = 93; at = record_number })
refusal_of fault.Date = Some (record { number = 95; at = 2 })
refusal_of (fault.Land record_number) = Some (record { number = 96; at = record_number })
refusal_of (fault.TooFine record_number) = Some (record { number = 97; at = record_number })
refusal_of (fault.Shared record_number) = Some (record { number = 98; at = record_number })
refusal_of (fault.TooMany record_number) = Some (record { number = 99; at = record_number })
refusal_of (fault.Unfilled record_number) = Some (record { number = 100; at = record_number })
refusal_of (fault.Divided record_number) = Some (record { number = 101; at = record_number })
refusal_of fault.Read = None
refusal_of fault.Memory = None

-- the refusal of land with a lot that the table lacks; its place is the lot: 100 times the section's
-- number, and the lot's number
abbrev pub lacking_refusal : ℕ → ℕ → Refusal
lacking_refusal section number = record { number = 94; at = 100 * section + number }

-- a record that names no lot of the township
abbrev pub NamesNoLot : Fields → Type 0
NamesNoLot fields = (section number : ℕ) → ¬ NamesLot fields section number

-- the numbered record is that of a lot, and has this fault
abbrev pub HasOnRow : List Fields → ℕ → (Fields → Type 0) → Type 0
HasOnRow records number IsBad = IsRowNumber records number × IsBad (record_numbered records number)

-- an earlier record is for the same lot
pub record IsLotRepeated (records : List Fields) (number : ℕ) : Type 0 where
  pub earlier : ℕ
  pub section : ℕ
  pub lot : ℕ
  pub is_earlier : earlier < number
  pub earlier_is_of_a_lot : IsRowNumber records earlier
  pub earlier_names : NamesLot (record_numbered records earlier) section lot
  pub names : NamesLot (record_numbered records number) section lot

-- the fault is present in a record of one of the standard lots
abbrev pub HasLotFault : List Fields → LotsFault → Type 0
HasLotFault records (fault.Columns number) =
    HasOnRow records number (λ fields. length fields ≢ LOT_FIELDS)
HasLotFault records (fault.NoLot number) = HasOnRow records number NamesNoLot
HasLotFault records (fault.Acres number) = HasOnRow records number HasNoAcres
HasLotFault records (fault.Repeated number) = IsRowNumber records number × IsLotRepeated records number
HasLotFault records other = ⊥

-- the fault is present after the township's record, in a table without land or in one with land
abbrev pub HasRowFault : List Fields → LotsFault → Type 0
HasRowFault records fault = ((record_numbered records 1 ≡ lots_heading) × HasLotFault records fault)
    ⊎ ((record_numbered records 1 ≡ land_heading) × HasLandFault records fault)

-- the second record does not have the five fields of a township's, or the six of one with a date
abbrev pub HasWrongColumns : List Fields → ℕ → Type 0
HasWrongColumns records number = (number ≡ 2) × (2 ≤ length records)
    × (length (record_numbered records 2) ≢ FIELDS) × (length (record_numbered records 2) ≢ FIELDS + 1)

-- the fault is present
abbrev pub HasFault : List ℕ → LotsFault → Type 0
HasFault bytes fault.TooLarge = LOTS_TEXT_MOST < length bytes
HasFault bytes fault.Empty = records_of bytes ≡ []
HasFault bytes fault.Heading = (record_numbered (records_of bytes) 1 ≢ lots_heading)
    × (record_numbered (records_of bytes) 1 ≢ land_heading)
HasFault bytes (fault.Columns number) =
    HasWrongColumns (records_of bytes) number ⊎ HasRowFault (records_of bytes) (fault.Columns number)
HasFault bytes fault.Township = (township : _)
    → ¬ IsTownshipRecord (take FIELDS (record_numbered (records_of bytes) 2)) township
HasFault bytes fault.Date = (length (record_numbered (records_of bytes) 2) ≡ FIELDS + 1)
    × ((date : ℕ) → ¬ IsDateText (field (record_numbered (records_of bytes) 2) FIELDS) date)
HasFault bytes other = HasRowFault (records_of bytes) other

-- The size of the table comes first, then its records one after another, and then what is wrong with all of
-- them together.
abbrev pub stage_of : LotsFault → ℕ
stage_of fault.TooLarge = 0
stage_of (fault.Unfilled record_number) = 2
stage_of (fault.Divided record_number) = 3
stage_of other = 1

-- the number of a fault's refusal
abbrev pub number_of : LotsFault → ℕ
number_of fault = option_map_or (λ (refusal : Refusal). refusal.number) (refusal_of fault) 0

-- the place of a fault's refusal
abbrev pub place_of : LotsFault → ℕ
place_of fault = option_map_or (λ (refusal : Refusal). refusal.at) (refusal_of fault) 0

-- the fault is at this stage, place, and number, or after them
abbrev pub IsFrom : ℕ → ℕ → ℕ → LotsFault → Type 0
IsFrom stage place number fault =
    (stage < stage_of fault)
    ⊎ ((stage ≡ stage_of fault) × (place < place_of fault))
    ⊎ ((stage ≡ stage_of fault) × (place ≡ place_of fault) × (number ≤ number_of fault))

-- the fault is present, and no fault that precedes it is
pub record IsFirstLotsFault (bytes : List ℕ) (fault : LotsFault) : Type 0 where
  pub is : HasFault bytes fault
  pub first : (other : LotsFault) → HasFault bytes other
      → IsFrom (stage_of fault) (place_of fault) (number_of fault) other

-- the lot table in the bytes, or their first fault
abbrev pub AnswersLots : List ℕ → Result LotTable LotsFault → Type 0
AnswersLots bytes (Ok table) = IsLotTable bytes table
AnswersLots bytes (Err fault) = IfSome (refusal_of fault) (λ _. IsFirstLotsFault bytes fault)
