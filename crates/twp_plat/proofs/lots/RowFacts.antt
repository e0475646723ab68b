-- One record of a lot table with land that is not entered.
use Rattle.std.proofs.Common.{◌≡◌, ℕ, ◌≤◌, List, length, Result, Ok, Err, IfErr, inl, inr, arith}
use Rattle.twp_notes.specs.Records.{Fields, field}
use Rattle.twp_plat.specs.LandRecords.{LAND_FIELDS}
use Rattle.twp_plat.specs.steps.LandEntries.{IsForMark, IsForLand, IsLandNotEntered, IsPartsFault}
use Rattle.twp_plat.specs.declared.lots.fault.LotsFault.{LotsFault}
use Rattle.twp_plat.specs.declared.lots.fault.LotsFault.TheVariants as fault
use Rattle.twp_plat.specs.declared.lots.land_entries.LotEntries.{LotEntries}

-- because of its parts
pub parts_refused : (fields : Fields) (number section mark : ℕ) (marks : List (List ℕ)) (entries : LotEntries)
    → length fields ≡ LAND_FIELDS → IsForLand fields section mark entries
    → (is : LotsFault) → IsPartsFault (field fields 3) section number marks is
    → IsLandNotEntered fields number marks entries is
parts_refused fields number section mark marks entries columns for_land (fault.Land at) why =
    (why.0, columns, (section, mark, for_land, why.1))
parts_refused fields number section mark marks entries columns for_land (fault.TooFine at) why =
    (why.0, columns, (section, mark, for_land, why.1))
parts_refused fields number section mark marks entries columns for_land (fault.Shared at) why =
    (why.0, columns, (section, mark, for_land, why.1))
parts_refused fields number section mark marks entries columns for_land fault.Memory why = tt
parts_refused fields number section mark marks entries columns for_land _ why = absurd why

-- a record whose mark is that of land that is not there
pub no_land_refused : {A : Type 0} (fields : Fields) (number section mark : ℕ) (marks : List (List ℕ))
    (entries : LotEntries) (result : Result A LotsFault)
    → length fields ≡ LAND_FIELDS → IsForMark fields section mark → mark ≡ 100
    → IfErr result (IsPartsFault (field fields 3) section number marks)
    → IfErr result (IsLandNotEntered fields number marks entries)
no_land_refused fields number section mark marks entries (Ok done) columns is_for is why = tt
no_land_refused fields number section mark marks entries (Err because) columns (inl lot) is why =
    absurd (omega (arith, lot.most, is))
no_land_refused fields number section mark marks entries (Err because) columns (inr none) is why =
    parts_refused fields number section mark marks entries columns (inr none) because why
