-- No place has a mark.
use Rattle.std.proofs.Common.{◌-◌}
use Rattle.twp_land.specs.LotMaps.{place_number}
use Rattle.twp_land.proofs.PaintFacts.{no_mark_of}
use Rattle.twp_land.proofs.lot_marks.LotMarks.none.Goals as goal

pub returns : goal.returns
returns c = λ section column row. no_mark_of 36 (section - 1) (place_number column row)
