use Rattle.twp_grid.specs.Lands.{lotting}
use Rattle.twp_suggest.proofs.meaning.LandFacts.{is_some_land, is_remainder}
use Rattle.twp_suggest.proofs.meaning.wording.remainder.Goals as goal

pub returns-clause-described : goal.returns-clause-described
returns-clause-described g c =
    let lots = lotting (g.P.Lotting.layout c.args.lots.now) in
    let land =
    is_some_land lots c.args.township c.args._whole.now _ _ c.requires.read
    (c.in_ok-find_some_land.ensures.land) in
    let read_less = rw c.in-Some.is at c.in_ok-items.ensures.read in
    let less =
    is_some_land lots c.args.township c.args.excepted.now _ _ read_less
    (c.in_ok-find_some_land-2.ensures.land) in
    is_remainder lots c.args._made.now c.args._whole.now c.args.excepted.now c.args.at c.in_ok-text.text.items
    c.in_ok-full.full.items _ _ _ _
    c.requires.only land less
    (c.is_proper_part.ensures.inside c.if-not-is_proper_part.false)
    (c.is_proper_part.ensures.some_left c.if-not-is_proper_part.false)
    (rw c.take_away.ensures at c.in_ok-full.ensures.text)
    (rw c.as_slice.ensures.value at c.in_ok-text.ensures) c.requires.parted c.requires.by_itself
