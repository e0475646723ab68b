-- Lot tables as plain data. Only the township may be invalid.
use Rattle.twp_plat.specs.declared.lots.table.LotTable.{LotTable}
use Rattle.twp_calls.specs.GivenTownships.{given_designation}
use Rattle.twp_calls.specs.declared.lots.TownshipLots.{TownshipLots as GivenLots}

-- the parts of a lot table
abbrev pub given_lots : LotTable → GivenLots
given_lots table =
    record { lots = table.lots; date = table.date; township = given_designation table.township }
