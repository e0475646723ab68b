-- The next lot is the lowest mark that is greater.
use Rattle.std.proofs.Common.{◌<◌, refl, arith}
use Rattle.std.proofs.lemmas.Bool.Decides.{nat_tests}
use Rattle.twp_land.proofs.SectionMarks.{last_lot, mark_of_lot, next_byte}
use Rattle.twp_land.proofs.lot_map.LotMapLotting.next_lot.Goals as goal

pub returns-then-after-ge-LOT_MOST : goal.returns-then-after-ge-LOT_MOST
returns-then-after-ge-LOT_MOST c lot has =
    let self = c.args.self.now in
    let mark = mark_of_lot self.positions self.divided c.args.section lot has in
    grind (arith, nat_tests, c.if-after-ge-LOT_MOST.true, mark.3)

pub returns-then-has_none_from : goal.returns-then-has_none_from
returns-then-has_none_from c =
    let self = c.args.self.now in
    last_lot self.positions self.divided c.args.section c.args.after
    (c.has_none_from.ensures c.if-has_none_from.true)

pub returns-then-has_byte : goal.returns-then-has_byte
returns-then-has_byte c =
    let self = c.args.self.now in
    let byte = c.if-has_byte.ensures refl in
    let few : c.args.after < 99 = grind (arith, nat_tests, c.if-after-ge-LOT_MOST.false) in
    next_byte self.positions self.divided c.args.section c.args.after byte.0 byte.1 byte.2 few
