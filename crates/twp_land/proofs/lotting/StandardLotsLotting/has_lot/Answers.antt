use Rattle.std.proofs.Common.{arith}
use Rattle.std.proofs.lemmas.Bool.Decides.{nat_tests}
use Rattle.twp_land.specs.steps.StandardLots.{standard_are_lots}
use Rattle.twp_land.proofs.LottingFacts.{standard_has, standard_number}
use Rattle.twp_land.proofs.lotting.StandardLotsLotting.has_lot.Goals as goal

pub returns-then-number-ge1 : goal.returns-then-number-ge1
returns-then-number-ge1 c = (
  λ is. standard_has c.args.section c.args.number c.lot_count.ensures.section
      (grind (arith, nat_tests, c.if-number-ge1.true))
      (grind (arith, nat_tests, is, c.from.ensures, c.lot_count.ensures.count)),
  λ has.
      let number = standard_number c.args.section c.args.number c.lot_count.ensures.section has in
      grind (arith, nat_tests, number.1, c.from.ensures, c.lot_count.ensures.count),
)

pub returns-else-number-ge1 : goal.returns-else-number-ge1
returns-else-number-ge1 c = (
  λ is. absurd (grind (arith, nat_tests, is, c.if-number-ge1.false)),
  λ has.
      let number = standard_are_lots.numbered c.args.section c.args.number has.0 has.1 has.2 in
      absurd (grind (arith, nat_tests, number.0, c.if-number-ge1.false)),
)
