-- The next figure is for another lot, or past all figures there is none.
use Rattle.std.proofs.Common.{◌≡◌, ◌≤◌, ◌-◌, ◌∙◌, arith, length, sym}
use Rattle.twp_plat.specs.LotTables.{figure_of}
use Rattle.twp_plat.proofs.lots.Among.{among_next, among_past}
use Rattle.twp_plat.proofs.lots.returned.ReturnedLots.figure.Goals as goal

pub loop-index-preserved : goal.loop-index-preserved
loop-index-preserved c =
    let self = c.args.self.now in
    record {
      later =
          sym
          (among_next self.figures self.numbers c.args.lot c.loop-index.index c.from-end.result
          c.loop-index-test.true c.if-self-index.false)
          ∙ c.loop-index.invariant.later;
    }

pub returns-else-index-lt-RETURNED_MOST-clause-figure : goal.returns-else-index-lt-RETURNED_MOST-clause-figure
returns-else-index-lt-RETURNED_MOST-clause-figure c some =
    let self = c.args.self.now in
    let past : length self.figures ≤ c.loop-index.index = omega (arith, c.if-index-lt-RETURNED_MOST.false) in
    let none =
    among_past self.figures self.numbers c.args.lot c.loop-index.index
    (c.from-end.result - c.loop-index.index)
    past in
    let zeroth : figure_of c.args.self.now c.args.section c.args.lot ≡ 0 =
    sym c.loop-index.invariant.later ∙ none in
    omega (arith, some, zeroth)
