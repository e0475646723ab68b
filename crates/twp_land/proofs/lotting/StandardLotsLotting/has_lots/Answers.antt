use Rattle.std.proofs.Common.{arith}
use Rattle.std.proofs.lemmas.Bool.Decides.{nat_tests}
use Rattle.twp_land.specs.steps.StandardLots.{standard_are_lots}
use Rattle.twp_land.proofs.LottingFacts.{standard_have, standard_number}
use Rattle.twp_land.proofs.lotting.StandardLotsLotting.has_lots.Goals as goal

pub returns-then-first-ge1 : goal.returns-then-first-ge1
returns-then-first-ge1 c = (
  λ is. standard_have c.args.section c.args.first c.args.last c.lot_count.ensures.section
      (grind (arith, nat_tests, c.if-first-ge1.true))
      (grind (arith, nat_tests, is, c.from.ensures, c.lot_count.ensures.count)),
  λ have.
      let last =
      standard_number c.args.section c.args.last c.lot_count.ensures.section
      (have c.args.last c.requires (omega arith)) in
      grind (arith, nat_tests, last.1, c.from.ensures, c.lot_count.ensures.count),
)

pub returns-else-first-ge1 : goal.returns-else-first-ge1
returns-else-first-ge1 c = (
  λ is. absurd (grind (arith, nat_tests, is, c.if-first-ge1.false)),
  λ have.
      let has = have c.args.first (omega arith) c.requires in
      let number = standard_are_lots.numbered c.args.section c.args.first has.0 has.1 has.2 in
      absurd (grind (arith, nat_tests, number.0, c.if-first-ge1.false)),
)
