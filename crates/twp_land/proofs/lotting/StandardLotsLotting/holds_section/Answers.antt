use Rattle.twp_land.proofs.LottingFacts.{section_held}
use Rattle.twp_land.proofs.lotting.StandardLotsLotting.holds_section.Goals as goal

pub returns : goal.returns
returns g c =
    let both =
    section_held c.args.section (g.S.PlaceSet.places c.args.set.now c.args.section) c.whole.result
    c.whole.ensures in
    (λ is. both.0 (c.full.ensures.0 is), λ each. c.full.ensures.1 (both.1 each))
