-- The figures returned for lots so far, by index, and why the record of a lot is refused, in the
-- order in which its fields are read. No public contract cites this module.
use Rattle.std.specs.Prelude.{slice_set, ◌≡◌, ◌≢◌, ℕ, ◌+◌, ◌<◌, ◌≤◌, List, length, slice_index_or, ⊤}
use Rattle.twp_notes.specs.Records.{Fields, record_at}
use Rattle.twp_plat.specs.LotTables.{LOT_COUNT, FIGURE_MOST, lot_index}
use Rattle.twp_plat.specs.LotRecords.{LOT_FIELDS, HasNoAcres, NamesLot, IsLotRecord}
use Rattle.twp_plat.specs.LotsFaults.{NamesNoLot}
use Rattle.twp_plat.specs.declared.lots.fault.LotsFault.{LotsFault}
use Rattle.twp_plat.specs.declared.lots.fault.LotsFault.TheVariants as fault

-- the figure at an index, or 0
abbrev pub entry_of : List ℕ → ℕ → ℕ
entry_of figures index = slice_index_or figures index 0

-- the record of a lot was entered
pub record Enters (fields : Fields) (old new : List ℕ) : Type 0 where
  pub section : ℕ
  pub lot : ℕ
  pub hundredths : ℕ
  pub is : IsLotRecord fields section lot hundredths
  pub first : entry_of old (lot_index section lot) ≡ 0
  pub new_is : new ≡ slice_set old (lot_index section lot) hundredths
  pub below : lot_index section lot < LOT_COUNT

-- the record names a lot that has a figure already
pub record IsOfEarlierLot (fields : Fields) (figures : List ℕ) : Type 0 where
  pub section : ℕ
  pub lot : ℕ
  pub names : NamesLot fields section lot
  pub before : 0 < entry_of figures (lot_index section lot)

-- the numbered record is not entered: this is why, and no earlier reason applies
abbrev pub IsNotEntered : Fields → List ℕ → ℕ → LotsFault → Type 0
IsNotEntered fields figures number (fault.Columns at) = (at ≡ number)
    × (length fields ≢ LOT_FIELDS)
IsNotEntered fields figures number (fault.NoLot at) = (at ≡ number)
    × (length fields ≡ LOT_FIELDS) × NamesNoLot fields
IsNotEntered fields figures number (fault.Acres at) = (at ≡ number) × HasNoAcres fields
    × ¬ NamesNoLot fields
IsNotEntered fields figures number (fault.Repeated at) = (at ≡ number)
    × IsOfEarlierLot fields figures × ¬ HasNoAcres fields
IsNotEntered fields figures number other = ⊥

-- the record is that of a lot, and the figures have its acreage
pub record IsEntered (fields : Fields) (figures : List ℕ) : Type 0 where
  pub section : ℕ
  pub lot : ℕ
  pub hundredths : ℕ
  pub is : IsLotRecord fields section lot hundredths
  pub entered : entry_of figures (lot_index section lot) ≡ hundredths

-- one of the first records, up to this number, names the lot of an index
pub record IsLotNamedBy (records : List Fields) (count index : ℕ) : Type 0 where
  pub place : ℕ
  pub section : ℕ
  pub lot : ℕ
  pub within : place < count
  pub names : NamesLot (record_at records place) section lot
  pub index_is : lot_index section lot ≡ index

-- the figures are exactly those of the first records up to this number, each for another lot
pub record AreEntered (records : List Fields) (count : ℕ) (figures : List ℕ) : Type 0 where
  pub each : (place : ℕ) → place < count → IsEntered (record_at records place) figures
  pub once : (place other section lot : ℕ) → place < count → other < count
      → NamesLot (record_at records place) section lot
      → NamesLot (record_at records other) section lot → place ≡ other
  pub named : (index : ℕ) → 0 < entry_of figures index → IsLotNamedBy records count index
  pub most : (index : ℕ) → entry_of figures index ≤ FIGURE_MOST
  pub size : length figures ≡ LOT_COUNT

-- this many of the records were entered, and the next one is refused
pub record IsLotRefusedNext (records : List Fields) (fault : LotsFault) : Type 0 where
  pub count : ℕ
  pub figures : List ℕ
  pub within : count < length records
  pub entered : AreEntered records count figures
  pub not_entered : IsNotEntered (record_at records count) figures (count + 3) fault

-- the same, unless memory ran out
abbrev pub IsLotRefusedAfter : List Fields → LotsFault → Type 0
IsLotRefusedAfter records fault.Memory = ⊤
IsLotRefusedAfter records other = IsLotRefusedNext records other
