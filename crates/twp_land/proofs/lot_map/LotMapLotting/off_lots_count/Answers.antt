-- What is marked as a lot, or as no land, is subtracted block by block.
use Rattle.std.proofs.Common.{arith, ◌∙◌}
use Rattle.twp_land.proofs.LeftMarks.{off_land, marks_first, marks_next, marks_last}
use Rattle.twp_land.proofs.SectionMarks.{none_left}
use Rattle.twp_land.proofs.lot_map.LotMapLotting.off_lots_count.Goals as goal

pub returns-then-has_none_from : goal.returns-then-has_none_from
returns-then-has_none_from g c =
    let self = c.args.self.now in
    let held = g.S.PlaceSet.places c.args.set.now c.args.section in
    let counted = rw c.whole.ensures at c.count-count.ensures in
    marks_last self.positions self.divided c.args.section 0 c.count-count.result held
    (counted ∙ marks_first (off_land self.positions self.divided c.args.section) held)
    (none_left self.positions self.divided c.args.section 1 100 0
    (c.has_none_from.ensures c.if-has_none_from.true))

pub loop-found-init : goal.loop-found-init
loop-found-init g c =
    let self = c.args.self.now in
    let held = g.S.PlaceSet.places c.args.set.now c.args.section in
    let counted = rw c.whole.ensures at c.count-count.ensures in
    record {
      left = counted ∙ marks_first (off_land self.positions self.divided c.args.section) held;
    }

pub overflow_sub-count : goal.overflow_sub-count
overflow_sub-count g c =
    let self = c.args.self.now in
    let next =
    marks_next self.positions self.divided c.args.section c.loop-found.from
    (g.S.PlaceSet.places c.args.set.now c.args.section) c.in-Some.found.block c.in-Some.found.end
    c.in-Some.ensures.next in
    omega (arith, c.loop-found.invariant.left, next, c.count-count-in-Some.ensures)

pub loop-found-preserved : goal.loop-found-preserved
loop-found-preserved g c =
    let self = c.args.self.now in
    let next =
    marks_next self.positions self.divided c.args.section c.loop-found.from
    (g.S.PlaceSet.places c.args.set.now c.args.section) c.in-Some.found.block c.in-Some.found.end
    c.in-Some.ensures.next in
    record {
      left = omega (arith, c.loop-found.invariant.left, next, c.count-count-in-Some.ensures);
    }

pub returns : goal.returns
returns g c =
    let self = c.args.self.now in
    marks_last self.positions self.divided c.args.section c.loop-found.from c.loop-found.count
    (g.S.PlaceSet.places c.args.set.now c.args.section) c.loop-found.invariant.left c.in_default.ensures.next
