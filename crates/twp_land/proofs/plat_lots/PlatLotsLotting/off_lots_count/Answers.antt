use Rattle.std.proofs.Common.{◌≡◌, subst}
use Rattle.twp_grid.specs.Places.{PLACE_DIGITS}
use Rattle.twp_grid.specs.Spans.{whole_block}
use Rattle.twp_grid.specs.Lands.{count_held, lotting}
use Rattle.twp_land.specs.LotMaps.{land_off_lots}
use Rattle.twp_land.proofs.PlatLayouts.{is_standard, is_mapped}
use Rattle.twp_land.proofs.plat_lots.PlatLotsLotting.off_lots_count.Goals as goal

pub returns-then-self-eq0 : goal.returns-then-self-eq0
returns-then-self-eq0 g c =
    let self = c.args.self.now in
    subst (λ layout. c.off_lots_count.result ≡ count_held (land_off_lots (lotting layout) c.args.section
    (g.S.PlaceSet.places c.args.set.now c.args.section)) (whole_block PLACE_DIGITS))
    (is_standard self.mapped self.map.positions self.map.divided c.if-self-eq0.true) c.off_lots_count.ensures

pub returns : goal.returns
returns g c =
    let self = c.args.self.now in
    subst (λ layout. c.off_lots_count-2.result ≡ count_held (land_off_lots (lotting layout) c.args.section
    (g.S.PlaceSet.places c.args.set.now c.args.section)) (whole_block PLACE_DIGITS))
    (is_mapped self.mapped self.map.positions self.map.divided c.if-self-eq0.false) c.off_lots_count-2.ensures
