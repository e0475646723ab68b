-- Lot tables as bytes. With three columns, they mean the standard lots; with four, they say where the lots
-- lie.
use Rattle.std.specs.Prelude.{◌≡◌, ◌⊎◌, ℕ, ◌≤◌, List, length}
use Rattle.twp_land.specs.LotMaps.{layout_of_plat}
use Rattle.twp_notes.specs.Records.{Fields, records_of, record_numbered}
use Rattle.twp_plat.specs.LotTables.{figure_of}
use Rattle.twp_plat.specs.LotRecords.{LOTS_TEXT_MOST, IsPlatRecord, AreLotRecords}
use Rattle.twp_plat.specs.LandRecords.{land_heading, LayOutLots}
use Rattle.twp_plat.specs.LandFaults.{HasLandFault}
use Rattle.twp_plat.specs.declared.lots.fault.LotsFault.{LotsFault}
use Rattle.twp_plat.specs.declared.lots.table.LotTable.{LotTable}

-- The records are this table with land: the heading, the township, and records of lots and of land that is
-- not there, in which no fault is present.
pub record AreLandRecords (records : List Fields) (table : LotTable) : Type 0 where
  pub heading_is : record_numbered records 1 ≡ land_heading
  pub plat_is : IsPlatRecord (record_numbered records 2) table.township table.date
  pub sound : (fault : LotsFault) → ¬ HasLandFault records fault
  pub platted : LayOutLots records
      (layout_of_plat table.lots.plat.mapped table.lots.plat.map.positions table.lots.plat.map.divided)
      (figure_of table.lots)

-- the bytes are this lot table
pub record IsLotTable (bytes : List ℕ) (table : LotTable) : Type 0 where
  pub size : length bytes ≤ LOTS_TEXT_MOST
  pub records_are : AreLotRecords (records_of bytes) table ⊎ AreLandRecords (records_of bytes) table
