use Rattle.twp_grid.specs.Lands.{lotting}
use Rattle.twp_suggest.proofs.LandFacts.{other_land}
use Rattle.twp_suggest.proofs.reading.are_other.Goals as goal

pub returns : goal.returns
returns g c =
    let only = rw c.as_slice.ensures.value at (rw c.in-Some.is at c.in_ok-township.ensures.only) in
    let only' = rw c.as_slice-2.ensures.value at (c.in_ok-has_more.ensures.only c.if-not-has_more.false) in
    other_land (lotting (g.P.Lotting.layout c.args.lots.now)) c.args.one.now c.args.other.now _ _
    c.have_same_text-are_texts.result c.same.result
    c.have_same_text-are_texts.ensures c.if-are_texts.false only only' c.same.ensures
