use Rattle.twp_grid.specs.Lands.{lotting}
use Rattle.twp_suggest.proofs.ClosedFacts.{given_by_text}
use Rattle.twp_suggest.proofs.closed.is_way_given.Goals as goal

pub returns-then-have_text : goal.returns-then-have_text
returns-then-have_text g c = λ _.
    given_by_text (lotting (g.P.Lotting.layout c.args.lots.now)) c.args.readings.now c.args.own.now
    c.args.made.now c.in-Some.other.items c.args.way
    (rw c.in-Some.is at c.in_ok-other.ensures)
    (rw c.as_slice.ensures.value at (c.have_text.ensures c.if-have_text.true))
