use Rattle.std.proofs.Common.{◌∙◌, ap}
use Rattle.twp_grid.specs.Lands.{difference, intersection}
use Rattle.twp_diagnose.proofs.PartFacts.{off_lots_kept}
use Rattle.twp_diagnose.proofs.finding.keep_off_lots.Goals as goal

pub returns : goal.returns
returns g c =
    let old = g.L.PlaceSet.places c.args.land.now in
    let taken = g.L.PlaceSet.places c.take_away.new.self in
    off_lots_kept (g.P.Lotting.layout c.args.lots.now) c.args.section old taken _
    (g.met.P.Lotting.lots c.args.lots.now)
    (λ section column row held. (g.met.L.PlaceSet.within c.args.land.now section column row held).1)
    (c.take_away.ensures ∙ ap (λ less. difference old less) c.fill_with_lots.ensures)
    (c.keep_common.ensures ∙ ap (λ kept. intersection taken kept) c.fill_with_section.ensures)
