use Rattle.std.proofs.Common.{arith, subst, All, take_all}
use Rattle.std.proofs.lemmas.List.Elements.{All-more}
use Rattle.twp_grid.specs.Lands.{lotting}
use Rattle.twp_suggest.specs.Readings.{AreOther}
use Rattle.twp_suggest.proofs.reading.is_other.Goals as goal

pub loop-reading-preserved : goal.loop-reading-preserved
loop-reading-preserved g c =
    All-more (λ reading. AreOther (lotting (g.P.Lotting.layout c.args.lots.now)) reading c.args.new.now)
    c.args.readings.now c.loop-reading.reading-index
    c.reading-item.result c.loop-reading-test.true c.loop-reading.invariant
    (subst (λ reading. AreOther (lotting (g.P.Lotting.layout c.args.lots.now)) reading c.args.new.now)
    c.reading-item.is
    (c.in_ok-differs.ensures c.if-not-differs.false))

pub returns : goal.returns
returns g c =
    λ _.
    subst (All (λ reading. AreOther (lotting (g.P.Lotting.layout c.args.lots.now)) reading c.args.new.now))
    (take_all c.loop-reading.reading-index c.args.readings.now (omega arith)) c.loop-reading.invariant
