-- The refused item has no fault of its own, and its places are the land.
use Rattle.std.proofs.Common.{refl}
use Rattle.std.proofs.lemmas.Option.{slice_get_read}
use Rattle.twp_resolve.specs.steps.ResolvingSteps.{number_of_section}
use Rattle.twp_resolve.proofs.SharedFacts.{refused_land, refused_not_alone}
use Rattle.twp_grid.specs.Lands.{lotting}
use Rattle.twp_resolve.proofs.shared.place_refused.Goals as goal

pub returns-in_err-place_item-clause-refused : goal.returns-in_err-place_item-clause-refused
returns-in_err-place_item-clause-refused g c =
    let refused = c.in_ok-refused.refused in
    let is = c.in_ok-refused.ensures in
    absurd
    (refused_not_alone (lotting (g.P.Lotting.layout c.args.lots.now)) c.args.township c.args.items.now
    refused.index
    (number_of_section refused.section) c.index-items-refused.result
    (slice_get_read c.args.items.now _ refused.index c.index-items-refused.result refl is.within
    c.index-items-refused.is)
    is.refused c.in_err-place_item.ensures)

pub returns-clause-refused : goal.returns-clause-refused
returns-clause-refused g c =
    let refused = c.in_ok-refused.refused in
    let is = c.in_ok-refused.ensures in
    refused_land (lotting (g.P.Lotting.layout c.args.lots.now)) c.args.township c.args.items.now refused.index
    (number_of_section refused.section) c.index-items-refused.result
    (g.L.PlaceSet.places c.place_item.new.land)
    (slice_get_read c.args.items.now _ refused.index c.index-items-refused.result refl is.within
    c.index-items-refused.is)
    is.refused (c.in_ok-place_item.ensures).0
