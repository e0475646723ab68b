use Rattle.std.proofs.Common.{◌↔◌, IsTrue, subst}
use Rattle.twp_grid.specs.Lands.{HasLots, lotting}
use Rattle.twp_land.proofs.PlatLayouts.{is_standard, is_mapped}
use Rattle.twp_land.proofs.plat_lots.PlatLotsLotting.has_lots.Goals as goal

pub returns-then-self-eq0 : goal.returns-then-self-eq0
returns-then-self-eq0 c =
    let self = c.args.self.now in
    subst
    (λ layout. IsTrue c.has_lots.result ↔ HasLots (lotting layout) c.args.section c.args.first c.args.last)
    (is_standard self.mapped self.map.positions self.map.divided c.if-self-eq0.true) c.has_lots.ensures

pub returns : goal.returns
returns c =
    let self = c.args.self.now in
    subst
    (λ layout. IsTrue c.has_lots-2.result ↔ HasLots (lotting layout) c.args.section c.args.first c.args.last)
    (is_mapped self.mapped self.map.positions self.map.divided c.if-self-eq0.false) c.has_lots-2.ensures
