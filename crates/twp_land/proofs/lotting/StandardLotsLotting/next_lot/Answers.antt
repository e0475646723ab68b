-- The lots of a section are numbered from 1 to their count.
use Rattle.std.proofs.Common.{arith}
use Rattle.twp_land.proofs.LottingFacts.{standard_has, standard_number}
use Rattle.twp_land.proofs.lotting.StandardLotsLotting.next_lot.Goals as goal

pub returns-then-after-lot_count : goal.returns-then-after-lot_count
returns-then-after-lot_count c = λ lot has.
    let number = standard_number c.args.section lot c.lot_count.ensures.section has in
    omega arith

pub returns : goal.returns
returns c = record {
  has = standard_has c.args.section _ c.lot_count.ensures.section (omega arith) (omega arith);
  after = omega arith;
  first = λ other has more. omega arith;
}
