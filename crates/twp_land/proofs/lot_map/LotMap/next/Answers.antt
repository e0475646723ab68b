-- The position found is the next one.
use Rattle.std.proofs.Common.{◌≤◌, arith}
use Rattle.std.proofs.lemmas.Bool.Decides.{nat_tests}
use Rattle.twp_land.proofs.MarkedFacts.{position_next}
use Rattle.twp_land.proofs.SectionMarks.{are_passed, whole_marks}
use Rattle.twp_land.proofs.lot_map.LotMap.next.Goals as goal

pub returns-then-is_between : goal.returns-then-is_between
returns-then-is_between c =
    let self = c.args.self.now in
    let position = c.position-position.result in
    let at = c.passed-at in
    let low : c.args.least ≤ position =
    grind (arith, nat_tests, c.if-is_between.true, c.is_between.ensures) in
    let high : position ≤ c.args.most =
    grind (arith, nat_tests, c.if-is_between.true, c.is_between.ensures) in
    record {
      next =
          rw c.position_at.ensures
          (position_next self.positions self.divided c.args.section c.args.least c.args.most c.args.from
          at.result position (omega (arith, c.if-at-ge-PLACES.false))
          (grind (arith, nat_tests, c.if-at-eq0.true)) c.position-position.ensures
          (whole_marks self.divided position c.args.least c.args.most
          (grind (arith, nat_tests, c.if-position-le-NO_LAND.true)) low high)
          at.ensures.from
          (are_passed self.positions self.divided c.args.section c.args.least c.args.most c.args.from
          at.result
          at.ensures.passed));
    }
