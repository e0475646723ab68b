-- The account of a list of tracts by a lot table. Each figure is an exact area by the table, rounded once,
-- half up, in hundredths of an acre.
use Rattle.std.specs.Prelude.{◌≡◌, ℕ, ◌<◌, Bool, List, length, slice_index_or}
use Rattle.twp_measure.specs.Areas.{Fraction, IsRounded}
use Rattle.twp_plat.specs.LotTables.{lots_of}
use Rattle.twp_plat.specs.declared.lots.returned.ReturnedLots.{ReturnedLots}
use Rattle.twp_grid.specs.Townships.{Designation}
use Rattle.twp_notes.specs.Records.{Fields, record_at}
use Rattle.twp_answers.specs.Tracts.{name_in, description_in, tract_records, IsTractList, IsLandOfTracts}
use Rattle.twp_answers.specs.declared.account_figures.TractFigure.{TractFigure}
use Rattle.twp_answers.specs.LotLands.{HasLotArea, HasLotAcresOf}

-- these are the hundredths of an acre of the land of a record's tract by the table
abbrev pub AreTractAcres : Designation → ReturnedLots → Fields → ℕ → Type 0
AreTractAcres township lots fields hundredths =
    HasLotAcresOf township lots (description_in fields) hundredths

-- the figure is that of the record's tract: its name, and its hundredths of an acre
pub record IsFigureByLots (township : Designation) (lots : ReturnedLots) (fields : Fields)
    (figure : TractFigure) : Type 0 where
  pub name_is : figure.name.bytes ≡ name_in fields
  pub acres : AreTractAcres township lots fields figure.hundredths

-- the first records, up to this number, have these figures
pub record AreFiguresByLots (township : Designation) (lots : ReturnedLots) (rows : List Fields) (count : ℕ)
    (figures : List TractFigure)
    : Type 0 where
  pub count_is : length figures ≡ count
  pub each : (index : ℕ) (default : TractFigure) → index < count
      → IsFigureByLots township lots (record_at rows index) (slice_index_or figures index default)

-- these are the hundredths of an acre by the table of all places in at least one of the tracts
pub record IsTotalByLots (township : Designation) (lots : ReturnedLots) (rows : List Fields) (total : ℕ)
    : Type 0 where
  pub places : ℕ → ℕ → ℕ → Bool
  pub land : IsLandOfTracts (lots_of lots) township rows (length rows) places
  pub area : Fraction
  pub area_is : HasLotArea lots places area
  pub rounded : IsRounded area total

-- The bytes are a list of tracts in the township of the table, which has a figure for each lot in them, and
-- this is their account: a figure for each, and the total.
pub record IsAccountByLots (township : Designation) (lots : ReturnedLots) (bytes : List ℕ)
    (figures : List TractFigure) (total : ℕ)
    : Type 0 where
  pub list : IsTractList (lots_of lots) township bytes
  pub figures_are : AreFiguresByLots township lots (tract_records bytes) (length (tract_records bytes))
      figures
  pub total_is : IsTotalByLots township lots (tract_records bytes) total
