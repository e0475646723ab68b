-- The next lot is the lowest mark that is greater.
use Rattle.std.proofs.Common.{◌+◌, ◌∙◌, ◌<◌, sym, arith}
use Rattle.std.proofs.lemmas.Bool.Decides.{nat_tests}
use Rattle.twp_land.proofs.SectionMarks.{next_lot, no_lot}
use Rattle.twp_land.specs.steps.Marked.{marked}
use Rattle.twp_land.proofs.MarkedLots.{some_left}
use Rattle.twp_land.proofs.OnlyLots.{following_lot, lot_of_place}
use Rattle.twp_land.proofs.lot_map.LotMap.search_lot.Goals as goal

pub returns-then-lot-eq-NO_LAND : goal.returns-then-lot-eq-NO_LAND
returns-then-lot-eq-NO_LAND c =
    let self = c.args.self.now in
    no_lot self.positions self.divided c.args.section c.args.after c.lowest-lot.result
    (grind (arith, nat_tests, c.if-lot-eq-NO_LAND.true)) c.lowest-lot.ensures.least

pub returns : goal.returns
returns c =
    let self = c.args.self.now in
    let few : c.lowest-lot.result < 100 =
    grind (arith, nat_tests, c.if-lot-eq-NO_LAND.false, c.lowest-lot.ensures.most) in
    next_lot self.positions self.divided c.args.section c.args.after c.lowest-lot.result
    c.lowest-lot.ensures.more few (c.lowest-lot.ensures.is few) c.lowest-lot.ensures.least

pub returns-then-is_some : goal.returns-then-is_some
returns-then-is_some c =
    let self = c.args.self.now in
    let few : c.args.after < 99 = c.requires in
    let place =
    (some_left c.next.result
    (marked self.positions self.divided c.args.section (c.args.after + 1) (c.args.after + 1))
    (λ found. found.block) (λ found. found.end) c.next.ensures.next).0
    (sym c.is_some.ensures ∙ c.if-is_some.true) in
    following_lot self.positions self.divided c.args.section c.args.after
    (lot_of_place self.positions self.divided c.args.section (c.args.after + 1) place.0 place.1 place.2
    (omega arith) (omega (arith, few)))
