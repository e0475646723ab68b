-- What bytes that are no lot table are refused for.
use Rattle.std.specs.Prelude.{◌≡◌, ℕ, List, Some}
use Rattle.twp_grid.specs.declared.refusal.Refusal.{Refusal}
use Rattle.twp_plat.specs.LotTexts.{IsLotTable}
use Rattle.twp_plat.specs.declared.lots.table.LotTable.{LotTable}
use Rattle.twp_plat.specs.LotsFaults.{IsFirstLotsFault, refusal_of}
use Rattle.twp_plat.specs.declared.lots.fault.LotsFault.{LotsFault}

-- the bytes are a lot table
abbrev pub AreSomeLots : List ℕ → Type 0
AreSomeLots bytes = (table : LotTable) × IsLotTable bytes table

-- the bytes are no lot table, for their first fault
pub record AreNoLots (bytes : List ℕ) (refusal : Refusal) : Type 0 where
  pub fault : LotsFault
  pub first : IsFirstLotsFault bytes fault
  pub refusal_is : refusal_of fault ≡ Some refusal
