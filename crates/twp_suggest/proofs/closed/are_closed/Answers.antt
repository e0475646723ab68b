use Rattle.std.proofs.Common.{arith, subst, All, take_all}
use Rattle.std.proofs.lemmas.List.Elements.{All-more}
use Rattle.twp_grid.specs.Lands.{lotting}
use Rattle.twp_suggest.specs.Closed.{IsClosed}
use Rattle.twp_suggest.proofs.closed.are_closed.Goals as goal

pub loop-reading-preserved : goal.loop-reading-preserved
loop-reading-preserved g c =
    All-more (IsClosed (lotting (g.P.Lotting.layout c.args.lots.now)) c.args.text.now c.args.readings.now)
    c.args.readings.now c.loop-reading.reading-index
    c.reading-item.result
    c.loop-reading-test.true c.loop-reading.invariant
    (subst (IsClosed (lotting (g.P.Lotting.layout c.args.lots.now)) c.args.text.now c.args.readings.now)
    c.reading-item.is
    (c.in_ok-is_given.ensures c.if-not-is_given.false))

pub returns : goal.returns
returns g c =
    λ _.
    subst (All (IsClosed (lotting (g.P.Lotting.layout c.args.lots.now)) c.args.text.now c.args.readings.now))
    (take_all c.loop-reading.reading-index c.args.readings.now (omega arith)) c.loop-reading.invariant
