use Rattle.std.proofs.Common.{refl}
use Rattle.twp_grid.specs.Lands.{lotting}
use Rattle.twp_suggest.proofs.meaning.NamedFacts.{are_lots_named}
use Rattle.twp_suggest.proofs.meaning.wording.with_lots_named.Goals as goal

pub returns : goal.returns
returns g c =
    are_lots_named (lotting (g.P.Lotting.layout c.args.lots.now)) c.args.made.now c.in_ok-text.text.items
    c.in_ok-full.full.items c.args.description.now
    c.args.township _ c.requires.read c.requires.township (c.if-not-is_named.ensures.named refl)
    (c.if-not-is_named.ensures.whole refl) (c.if-not-is_named.ensures.on_land refl) c.in_ok-full.ensures.text
    (rw c.as_slice.ensures.value at c.in_ok-text.ensures)
