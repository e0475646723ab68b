-- The block found is a position, columns of half a position, or a place.
use Rattle.std.proofs.Common.{◌+◌, ◌≤◌, arith, refl}
use Rattle.std.proofs.lemmas.Bool.Decides.{nat_tests}
use Rattle.twp_land.proofs.HalfBlocks.{half_next, half_passed, passed_on}
use Rattle.twp_land.proofs.MarkedFacts.{place_next, place_passed, position_next, position_passed}
use Rattle.twp_land.proofs.SectionMarks.{whole_marks}
use Rattle.twp_land.proofs.lot_map.LotMap.search.Goals as goal

pub returns-then-is_between : goal.returns-then-is_between
returns-then-is_between c =
    let self = c.args.self.now in
    let position = c.position-position.result in
    let low : c.args.least ≤ position =
    grind (arith, nat_tests, c.if-is_between.true, c.is_between.ensures) in
    let high : position ≤ c.args.most =
    grind (arith, nat_tests, c.if-is_between.true, c.is_between.ensures) in
    record {
      next =
          rw c.position_at.ensures
          (position_next self.positions self.divided c.args.section c.args.least c.args.most c.args.from
          c.places.at position c.places-test.true c.if-at-eq0.true c.position-position.ensures
          (whole_marks self.divided position c.args.least c.args.most c.if-position-le-NO_LAND.true low high)
          c.places.invariant.more c.places.invariant.passed);
    }

pub returns-in-Held : goal.returns-in-Held
returns-in-Held c =
    let self = c.args.self.now in
    record {
      next =
          half_next self.positions self.divided c.args.section c.args.least c.args.most c.args.from
          c.places.at
          c.position-position.result c.in-Held.columns c.half_at.result c.places-test.true
          (c.in-Held.ensures.first (λ other. cc other)) c.position-position.ensures
          (c.in-Held.ensures.held c.in-Held.columns refl) c.half_at.ensures.start c.half_at.ensures.width
          c.half_at.ensures.row c.half_at.ensures.height c.places.invariant.more c.places.invariant.passed;
    }

pub returns-then-is_between-2 : goal.returns-then-is_between-2
returns-then-is_between-2 c =
    let self = c.args.self.now in
    record {
      next =
          rw c.place_at.ensures
          (place_next self.positions self.divided c.args.section c.args.least c.args.most c.args.from
          c.places.at c.position-position.result c.places-test.true c.position-position.ensures
          (grind
          (arith, nat_tests, c.if-is_between-2.true, c.is_between-in-Mixed.ensures, c.mark-mark.ensures))
          (grind
          (arith, nat_tests, c.if-is_between-2.true, c.is_between-in-Mixed.ensures, c.mark-mark.ensures))
          c.places.invariant.more c.places.invariant.passed);
    }

pub places-preserved-in-Empty : goal.places-preserved-in-Empty
places-preserved-in-Empty c =
    let self = c.args.self.now in
    record {
      more = omega (arith, c.places.invariant.more, c.passed-at-in-Empty.ensures.from);
      passed =
          passed_on self.positions self.divided c.args.section c.args.least c.args.most c.args.from
          (c.places.at + 64) c.passed-at-in-Empty.result
          (position_passed self.positions self.divided c.args.section c.args.least c.args.most c.args.from
          c.places.at c.position-position.result (c.in-Empty.ensures.whole refl) c.position-position.ensures
          (c.in-Empty.ensures.empty refl) c.places.invariant.passed)
          c.passed-at-in-Empty.ensures.passed;
    }

pub places-preserved-in-Nothing : goal.places-preserved-in-Nothing
places-preserved-in-Nothing c =
    let self = c.args.self.now in
    record {
      more = omega (arith, c.places.invariant.more, c.passed-at-in-Nothing.ensures.from);
      passed =
          passed_on self.positions self.divided c.args.section c.args.least c.args.most c.args.from
          (c.places.at + 32) c.passed-at-in-Nothing.result
          (half_passed self.positions self.divided c.args.section c.args.least c.args.most c.args.from
          c.places.at c.position-position.result (c.in-Nothing.ensures.first (λ other. cc other))
          c.position-position.ensures (c.in-Nothing.ensures.nothing refl) c.places.invariant.passed)
          c.passed-at-in-Nothing.ensures.passed;
    }

pub places-preserved : goal.places-preserved
places-preserved c =
    let self = c.args.self.now in
    record {
      more = omega (arith, c.places.invariant.more);
      passed =
          place_passed self.positions self.divided c.args.section c.args.least c.args.most c.args.from
          c.places.at
          c.position-position.result c.position-position.ensures
          (grind
          (arith, nat_tests, c.if-is_between-2.false, c.is_between-in-Mixed.ensures, c.mark-mark.ensures))
          c.places.invariant.passed;
    }
