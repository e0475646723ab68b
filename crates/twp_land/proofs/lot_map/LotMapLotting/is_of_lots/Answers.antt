use Rattle.std.proofs.Common.{not, ap, sym, ◌∙◌}
use Rattle.std.proofs.lemmas.Bool.{false≢true}
use Rattle.twp_land.proofs.MarkedLots.{place_in_block, some_lot_unless}
use Rattle.twp_land.proofs.lot_map.LotMapLotting.is_of_lots.Goals as goal

pub returns-then-not-meets : goal.returns-then-not-meets
returns-then-not-meets c is column row inside =
    let self = c.args.self.now in
    let place =
    place_in_block c.args.block column row c.width.ensures.dyadic c.height.ensures.dyadic inside in
    some_lot_unless self.positions self.divided c.args.section column row place
    (λ none.
    let met = c.meets.ensures.1 (record { column = column; row = row; inside = inside; is_held = none }) in
    false≢true (sym c.if-not-meets.true ∙ met))
    (λ none.
    let lacks =
    c.lacks_land.ensures.1 (record { column = column; row = row; inside = inside; none = none }) in
    false≢true (ap (λ b. not b) (sym lacks) ∙ is))
