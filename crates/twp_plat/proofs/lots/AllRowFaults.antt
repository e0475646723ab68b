-- The first fault of a lot table with land all of whose rows were entered, and of one that was refused.
use Rattle.std.proofs.Common.{◌≡◌, ℕ, ◌+◌, ◌-◌, ◌≤◌, ◌<◌, List}
use Rattle.std.proofs.Common.{length, inl, inr, refl}
use Rattle.std.proofs.Common.{arith, IfSome, if◌then◌else◌}
use Rattle.std.proofs.lemmas.Bool.{cases_lt}
use Rattle.twp_notes.specs.Records.{Fields, records_of, record_numbered}
use Rattle.twp_plat.specs.LandRecords.{land_heading}
use Rattle.twp_plat.specs.LandFaults.{HasLandFault}
use Rattle.twp_plat.specs.LotsFaults.{IsFirstLotsFault, IsFrom, place_of, refusal_of, stage_of}
use Rattle.twp_plat.specs.steps.LandEntries.{AreLandEntered}
use Rattle.twp_plat.specs.steps.LotReading.{AreLandLots, IsFirstUnfilled, DivideTooMany, IsLandRefused}
use Rattle.twp_plat.specs.declared.lots.fault.LotsFault.{LotsFault}
use Rattle.twp_plat.specs.declared.lots.fault.LotsFault.TheVariants as fault
use Rattle.twp_plat.specs.declared.lots.land_entries.LotEntries.{LotEntries}
use Rattle.twp_plat.specs.declared.lots.returned.ReturnedLots.{ReturnedLots}
use Rattle.twp_plat.proofs.lots.Filling.{unfilled_is, unfilled_found}
use Rattle.twp_plat.proofs.lots.FirstLandFaults.{none_before}
use Rattle.twp_plat.proofs.lots.FirstPlatFaults.{only_land}
use Rattle.twp_plat.proofs.lots.LandRefusals.{first_of_columns, first_of_no_lot}
use Rattle.twp_plat.proofs.lots.LandRefusals.{first_of_acres}
use Rattle.twp_plat.proofs.lots.LandRefusals.{first_of_repeated, first_of_land, first_of_too_fine}
use Rattle.twp_plat.proofs.lots.LandRefusals.{first_of_shared, first_of_too_many}
use Rattle.twp_plat.proofs.lots.RowMarks.{marks_are, same_divided}
use Rattle.twp_plat.proofs.lots.RowPlaces.{AreAfter, AreRows, rows_after}

-- a fault of a single record is at one of the records
within_records : (records : List Fields) (other : LotsFault) → HasLandFault records other
    → 1 ≡ stage_of other → place_of other ≤ length records
within_records records (fault.Columns at) has stage = has.0.1
within_records records (fault.NoLot at) has stage = has.0.1
within_records records (fault.Acres at) has stage = has.0.1
within_records records (fault.Repeated at) has stage = has.0.1
within_records records (fault.Land at) has stage = has.0.1
within_records records (fault.TooFine at) has stage = has.0.1
within_records records (fault.Shared at) has stage = has.0.1
within_records records (fault.TooMany at) has stage = has.0.1
within_records records (fault.Unfilled at) has stage = absurd (omega (arith, stage))
within_records records (fault.Divided at) has stage = absurd (omega (arith, stage))
within_records records _ has stage = absurd has

-- if all rows were entered, no fault is that of a single record
only_of_all : (records rows : List Fields) (marks : List (List ℕ)) (entries : LotEntries) (other : LotsFault)
    → AreRows records rows → AreLandEntered rows (length rows) marks entries → HasLandFault records other
    → 1 < stage_of other
only_of_all records rows marks entries other are entered has = elim from [
  | inl later ↦ later
  | inr same ↦ elim same [
    | inl (is, beyond) ↦
        let most = within_records records other has is in
        let long = are.long in
        absurd (omega (arith, most, long, beyond))
    | inr (is, at, _) ↦
        let most = within_records records other has is in
        let long = are.long in
        absurd (omega (arith, most, long, at))
  ]
]
  where
    from : IsFrom 1 (length rows + 3) 0 other
    from =
        none_before records rows (length rows) 0 marks entries are entered (record {
          columns = λ less. absurd (omega (arith, less));
          names = λ less. absurd (omega (arith, less));
          acres = λ less. absurd (omega (arith, less));
          again = λ less. absurd (omega (arith, less));
          parts = λ less. absurd (omega (arith, less));
          fine = λ less. absurd (omega (arith, less));
          shared = λ less. absurd (omega (arith, less));
        }) (omega arith) other has

-- a quarter-quarter that isn't filled is the first fault
unfilled_first : (records rows : List Fields) (number : ℕ) → AreRows records rows
    → IsFirstUnfilled rows number
    → HasLandFault records (fault.Unfilled number)
    × ((other : LotsFault) → HasLandFault records other → IsFrom 2 number 100 other)
unfilled_first records rows number are found = (
  unfilled_is records rows found.marks found.entries number are found.entered found.is,
  λ other has. by other has (only_of_all records rows found.marks found.entries other are found.entered has),
)
  where
    by : (other : LotsFault) → HasLandFault records other → 1 < stage_of other → IsFrom 2 number 100 other
    by (fault.Unfilled at) has later =
        let is = unfilled_found records rows found.marks found.entries at are found.entered has.0 has.1 in
        let least = found.first at is in
        elim (cases_lt number at) [
          | inl less ↦ inr (inl (refl, less))
          | inr most ↦ inr (inr (refl, omega (arith, least, most), omega arith))
        ]
    by (fault.Divided at) has later = inl (omega arith)
    by (fault.Columns at) has later = absurd (omega (arith, later))
    by (fault.NoLot at) has later = absurd (omega (arith, later))
    by (fault.Acres at) has later = absurd (omega (arith, later))
    by (fault.Repeated at) has later = absurd (omega (arith, later))
    by (fault.Land at) has later = absurd (omega (arith, later))
    by (fault.TooFine at) has later = absurd (omega (arith, later))
    by (fault.Shared at) has later = absurd (omega (arith, later))
    by (fault.TooMany at) has later = absurd (omega (arith, later))
    by _ has later = absurd has

-- too many divided quarter-quarters are the first fault
divided_first : (records rows : List Fields) (number : ℕ) → AreRows records rows → number ≡ length rows + 2
    → DivideTooMany rows
    → HasLandFault records (fault.Divided number)
    × ((other : LotsFault) → HasLandFault records other → IsFrom 3 number 101 other)
divided_first records rows number are is found = (
  (
    let long = are.long in omega (arith, is, long),
    record {
      marks = found.marks;
      are = marks_are records rows found.marks found.entries are found.entered;
      many = found.many;
    },
  ),
  λ other has. by other has (only_of_all records rows found.marks found.entries other are found.entered has),
)
  where
    by : (other : LotsFault) → HasLandFault records other → 1 < stage_of other → IsFrom 3 number 101 other
    by (fault.Unfilled at) has later =
        absurd
        (found.filled at
        (unfilled_found records rows found.marks found.entries at are found.entered has.0 has.1))
    by (fault.Divided at) has later =
        let here : number ≡ at = let long = are.long in omega (arith, has.0, is, long) in
        inr (inr (refl, here, omega arith))
    by (fault.Columns at) has later = absurd (omega (arith, later))
    by (fault.NoLot at) has later = absurd (omega (arith, later))
    by (fault.Acres at) has later = absurd (omega (arith, later))
    by (fault.Repeated at) has later = absurd (omega (arith, later))
    by (fault.Land at) has later = absurd (omega (arith, later))
    by (fault.TooFine at) has later = absurd (omega (arith, later))
    by (fault.Shared at) has later = absurd (omega (arith, later))
    by (fault.TooMany at) has later = absurd (omega (arith, later))
    by _ has later = absurd has

-- the result if the rows were refused
pub land_refused : (bytes : List ℕ) (rows : List Fields) (is : LotsFault) → AreAfter bytes land_heading rows
    → IsLandRefused rows is → IfSome (refusal_of is) (λ _. IsFirstLotsFault bytes is)
land_refused bytes rows is after refused = by is refused
  where
    records : List Fields
    records = records_of bytes

    are : AreRows records rows
    are = rows_after bytes land_heading rows after

    heading_is : record_numbered records 1 ≡ land_heading
    heading_is = rw after.split after.heading_is

    by : (is : LotsFault) → IsLandRefused rows is → IfSome (refusal_of is) (λ _. IsFirstLotsFault bytes is)
    by fault.Memory refused = tt
    by fault.Read refused = tt
    by (fault.Columns at) refused =
        let first = first_of_columns records rows at are refused in
        record {
          is = inr (inr (heading_is, first.has));
          first = λ other has. first.first other (only_land bytes rows after other has);
        }
    by (fault.NoLot at) refused =
        let first = first_of_no_lot records rows at are refused in
        record {
          is = inr (heading_is, first.has);
          first = λ other has. first.first other (only_land bytes rows after other has);
        }
    by (fault.Acres at) refused =
        let first = first_of_acres records rows at are refused in
        record {
          is = inr (heading_is, first.has);
          first = λ other has. first.first other (only_land bytes rows after other has);
        }
    by (fault.Repeated at) refused =
        let first = first_of_repeated records rows at are refused in
        record {
          is = inr (heading_is, first.has);
          first = λ other has. first.first other (only_land bytes rows after other has);
        }
    by (fault.Land at) refused =
        let first = first_of_land records rows at are refused in
        record {
          is = inr (heading_is, first.has);
          first = λ other has. first.first other (only_land bytes rows after other has);
        }
    by (fault.TooFine at) refused =
        let first = first_of_too_fine records rows at are refused in
        record {
          is = inr (heading_is, first.has);
          first = λ other has. first.first other (only_land bytes rows after other has);
        }
    by (fault.Shared at) refused =
        let first = first_of_shared records rows at are refused in
        record {
          is = inr (heading_is, first.has);
          first = λ other has. first.first other (only_land bytes rows after other has);
        }
    by (fault.TooMany at) refused =
        let first = first_of_too_many records rows at are refused in
        record {
          is = inr (heading_is, first.has);
          first = λ other has. first.first other (only_land bytes rows after other has);
        }
    by (fault.Unfilled at) refused =
        let first = unfilled_first records rows at are refused in
        record {
          is = inr (heading_is, first.0);
          first = λ other has. first.1 other (only_land bytes rows after other has);
        }
    by (fault.Divided at) (is, refused) =
        let first = divided_first records rows at are is refused in
        record {
          is = inr (heading_is, first.0);
          first = λ other has. first.1 other (only_land bytes rows after other has);
        }
    by _ refused = absurd refused.not_entered

-- no fault is present
pub sound : (records rows : List Fields) (lots : ReturnedLots) → AreRows records rows → AreLandLots rows lots
    → (other : LotsFault) → ¬ HasLandFault records other
sound records rows lots are land other has =
    by other has (only_of_all records rows land.marks land.entries other are land.entered has)
  where
    by : (other : LotsFault) → HasLandFault records other → 1 < stage_of other → ⊥
    by (fault.Unfilled at) has later =
        land.filled at (unfilled_found records rows land.marks land.entries at are land.entered has.0 has.1)
    by (fault.Divided at) has later =
        let too = has.1 in
        let same = same_divided records rows land.marks too.marks land.entries are land.entered too.are in
        absurd (omega (arith, too.many, same, land.few))
    by (fault.Columns at) has later = absurd (omega (arith, later))
    by (fault.NoLot at) has later = absurd (omega (arith, later))
    by (fault.Acres at) has later = absurd (omega (arith, later))
    by (fault.Repeated at) has later = absurd (omega (arith, later))
    by (fault.Land at) has later = absurd (omega (arith, later))
    by (fault.TooFine at) has later = absurd (omega (arith, later))
    by (fault.Shared at) has later = absurd (omega (arith, later))
    by (fault.TooMany at) has later = absurd (omega (arith, later))
    by _ has later = absurd has
