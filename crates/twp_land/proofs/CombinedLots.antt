-- Combinations of sets with whole lots.
use Rattle.std.proofs.Common.{◌&&◌, ◌||◌, not}
use Rattle.twp_land.specs.Laws.{CombinedLotsAreWhole}

pub combined_lots_are_whole : CombinedLotsAreWhole
combined_lots_are_whole lots places more first second = (
  λ section lot range. record {
    alike = λ column row column' row' lot_is lot_is' i.
        (first section lot range).alike column row column' row' lot_is lot_is' i
        || (second section lot range).alike column row column' row' lot_is lot_is' i;
  },
  λ section lot range. record {
    alike = λ column row column' row' lot_is lot_is' i.
        (first section lot range).alike column row column' row' lot_is lot_is' i
        && (second section lot range).alike column row column' row' lot_is lot_is' i;
  },
  λ section lot range. record {
    alike = λ column row column' row' lot_is lot_is' i.
        (first section lot range).alike column row column' row' lot_is lot_is' i
        && not ((second section lot range).alike column row column' row' lot_is lot_is' i);
  },
)
