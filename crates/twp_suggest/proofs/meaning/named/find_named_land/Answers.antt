use Rattle.twp_grid.specs.Lands.{lotting}
use Rattle.twp_suggest.proofs.meaning.NamedFacts.{are_named}
use Rattle.twp_suggest.proofs.meaning.named.find_named_land.Goals as goal

pub returns-in-Some : goal.returns-in-Some
returns-in-Some g c = λ named.
    let read = rw c.in-Some.is at c.in_ok-description.ensures.read in
    are_named (lotting (g.P.Lotting.layout c.args.lots.now)) c.args.text.now _ _ read
    (c.find_with_lots.ensures.named named)
    (c.find_with_lots.ensures.whole named) (c.find_with_lots.ensures.on_land named)
