use Rattle.std.proofs.Common.{ℕ, ◌<◌, get_or}
use Rattle.twp_grid.specs.Lands.{IsWholeOrNot}
use Rattle.twp_grid.specs.Lands.{STANDARD_LOTS}
use Rattle.twp_land.specs.Storage.{land_of_rows}
use Rattle.twp_land.proofs.LotSections.{lot_sections}
use Rattle.twp_land.proofs.lots.lots_whole.Given as goal

abbrev pub invariant-loop-at : goal.invariant-loop-at
invariant-loop-at l =
    (at lot : ℕ) → at < l.at → IsWholeOrNot STANDARD_LOTS (get_or lot_sections at 0) lot
    (land_of_rows l.rows (get_or lot_sections at 0))
