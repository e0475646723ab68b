use Rattle.std.proofs.Common.{MatchOption, subst}
use Rattle.twp_grid.specs.Lands.{IsLastLot, IsNextLot, lotting}
use Rattle.twp_land.proofs.PlatLayouts.{is_standard, is_mapped}
use Rattle.twp_land.proofs.plat_lots.PlatLotsLotting.next_lot.Goals as goal

pub returns-then-self-eq0 : goal.returns-then-self-eq0
returns-then-self-eq0 c =
    let self = c.args.self.now in
    subst (λ layout. MatchOption c.next_lot.result (IsLastLot (lotting layout) c.args.section c.args.after)
    (λ lot. IsNextLot (lotting layout) c.args.section c.args.after lot))
    (is_standard self.mapped self.map.positions self.map.divided c.if-self-eq0.true) c.next_lot.ensures

pub returns : goal.returns
returns c =
    let self = c.args.self.now in
    subst (λ layout. MatchOption c.next_lot-2.result (IsLastLot (lotting layout) c.args.section c.args.after)
    (λ lot. IsNextLot (lotting layout) c.args.section c.args.after lot))
    (is_mapped self.mapped self.map.positions self.map.divided c.if-self-eq0.false) c.next_lot-2.ensures
