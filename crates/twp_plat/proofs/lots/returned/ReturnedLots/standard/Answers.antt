-- The figures and numbers of the standard lots are copied.
use Rattle.std.proofs.Common.{arith}
use Rattle.twp_plat.proofs.lots.StandardFigures.{standard_is}
use Rattle.twp_plat.proofs.lots.returned.ReturnedLots.standard.Goals as goal

pub returns-clause-figures : goal.returns-clause-figures
returns-clause-figures c section number range some =
    standard_is c.args.returned.now c.loop-index.figures c.loop-index.numbers section number range some
    (λ k less. c.loop-index.invariant.figures k (omega (arith, less, c.loop-index-test.false)))
    (λ k less. c.loop-index.invariant.numbers k (omega (arith, less, c.loop-index-test.false)))
