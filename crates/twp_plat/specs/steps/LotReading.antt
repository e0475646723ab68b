-- How a lot table is read: by its heading, the record of its plat, and the records of its lots. No public
-- contract cites this module.
use Rattle.std.specs.Prelude.{◌≡◌, ◌≢◌, ◌⊎◌, ℕ, ◌+◌, ◌≤◌, ◌<◌, List, length, take}
use Rattle.twp_grid.specs.Winding.{IsSection}
use Rattle.twp_grid.specs.Townships.{Designation}
use Rattle.twp_grid.specs.Lands.{STANDARD_LAYOUT}
use Rattle.twp_land.specs.LotMaps.{layout_of_bytes, layout_of_plat}
use Rattle.twp_land.specs.LotMarks.{DIVIDED_MOST, HasMarks, divided_count}
use Rattle.twp_notes.specs.Records.{Fields, field}
use Rattle.twp_notes.specs.FieldNotes.{FIELDS, IsTownshipRecord}
use Rattle.twp_plat.specs.LotDates.{IsDateText}
use Rattle.twp_plat.specs.LotTables.{AreReturned, figure_of, standard_figure}
use Rattle.twp_plat.specs.LotRecords.{lots_heading}
use Rattle.twp_plat.specs.LandRecords.{land_heading}
use Rattle.twp_plat.specs.steps.LotEntries.{AreEntered, IsLotRefusedAfter}
use Rattle.twp_plat.specs.steps.LandEntries.{AreLandEntered, IsLandRefusedAfter}
use Rattle.twp_plat.specs.steps.Unfilled.{IsLeast, IsUnfilledRecord}
use Rattle.twp_plat.specs.declared.lots.fault.LotsFault.{LotsFault}
use Rattle.twp_plat.specs.declared.lots.fault.LotsFault.TheVariants as fault
use Rattle.twp_plat.specs.declared.lots.heading.Heading.{Heading}
use Rattle.twp_plat.specs.declared.lots.heading.Heading.TheVariants as heading
use Rattle.twp_plat.specs.declared.lots.land_entries.LotEntries.{LotEntries}
use Rattle.twp_plat.specs.declared.lots.returned.ReturnedLots.{ReturnedLots}

-- the fields of a heading
abbrev pub heading_fields : Heading → Fields
heading_fields heading.Standard = lots_heading
heading_fields heading.Land = land_heading

-- the second record is not that of a plat: this is why, and no earlier reason applies
abbrev pub IsPlatFault : Fields → LotsFault → Type 0
IsPlatFault fields (fault.Columns number) =
    (number ≡ 2) × (length fields ≢ FIELDS) × (length fields ≢ FIELDS + 1)
IsPlatFault fields fault.Township = ((length fields ≡ FIELDS) ⊎ (length fields ≡ FIELDS + 1))
    × ((township : Designation) → ¬ IsTownshipRecord (take FIELDS fields) township)
IsPlatFault fields fault.Date = (length fields ≡ FIELDS + 1)
    × ((township : Designation) × IsTownshipRecord (take FIELDS fields) township)
    × ((date : ℕ) → ¬ IsDateText (field fields FIELDS) date)
IsPlatFault fields other = ⊥

-- the lots are the standard ones, and have the figures of all rows
pub record AreStandardLots (rows : List Fields) (lots : ReturnedLots) : Type 0 where
  pub figures : List ℕ
  pub entered : AreEntered rows (length rows) figures
  pub layout : layout_of_plat lots.plat.mapped lots.plat.map.positions lots.plat.map.divided ≡ STANDARD_LAYOUT
  pub figures_are : (section number : ℕ) → IsSection section → 1 ≤ number
      → figure_of lots section number ≡ standard_figure figures section number

-- the lots have the marks and the figures of all rows, fill their quarter-quarters, and divide few
pub record AreLandLots (rows : List Fields) (lots : ReturnedLots) : Type 0 where
  pub marks : List (List ℕ)
  pub entries : LotEntries
  pub entered : AreLandEntered rows (length rows) marks entries
  pub filled : (number : ℕ) → ¬ IsUnfilledRecord marks entries.records number
  pub few : divided_count marks ≤ DIVIDED_MOST
  pub positions : List ℕ
  pub divided : List ℕ
  pub layout : layout_of_plat lots.plat.mapped lots.plat.map.positions lots.plat.map.divided
      ≡ layout_of_bytes positions divided
  pub marks_are : HasMarks positions divided marks
  pub returned : AreReturned entries.figures lots

-- all rows were entered, and this one is the first of a lot that does not fill its quarter-quarters
pub record IsFirstUnfilled (rows : List Fields) (number : ℕ) : Type 0 where
  pub marks : List (List ℕ)
  pub entries : LotEntries
  pub entered : AreLandEntered rows (length rows) marks entries
  pub is : IsUnfilledRecord marks entries.records number
  pub first : (other : ℕ) → IsUnfilledRecord marks entries.records other → number ≤ other

-- all rows were entered, and their lots fill their quarter-quarters, but divide too many
pub record DivideTooMany (rows : List Fields) : Type 0 where
  pub marks : List (List ℕ)
  pub entries : LotEntries
  pub entered : AreLandEntered rows (length rows) marks entries
  pub filled : (number : ℕ) → ¬ IsUnfilledRecord marks entries.records number
  pub many : DIVIDED_MOST < divided_count marks

-- the rows of a table with land are refused
abbrev pub IsLandRefused : List Fields → LotsFault → Type 0
IsLandRefused rows (fault.Unfilled number) = IsFirstUnfilled rows number
IsLandRefused rows (fault.Divided number) = (number ≡ length rows + 2) × DivideTooMany rows
IsLandRefused rows other = IsLandRefusedAfter rows other
