-- The first position with the lot's number, after which there is none.
use Rattle.std.proofs.Common.{◌≡◌, ◌+◌, ◌*◌, ◌<◌, ◌≤◌, arith}
use Rattle.std.proofs.lemmas.Bool.Decides.{nat_tests}
use Rattle.twp_land.specs.steps.Marked.{marked}
use Rattle.twp_land.proofs.MarkedFacts.{marked_parts, position_next}
use Rattle.twp_land.proofs.MarkedLoops.{only_next}
use Rattle.twp_land.proofs.SectionMarks.{are_passed, whole_marks}
use Rattle.twp_land.proofs.lot_map.LotMap.only_position.Goals as goal

pub returns : goal.returns
returns c =
    let self = c.args.self.now in
    let number = c.args.number in
    let index = c.first_between-index.result in
    let less : index < 16 = grind (arith, nat_tests, c.if-index-ge-POSITIONS.false) in
    let few : number ≤ 100 = grind (arith, nat_tests, c.if-number-gt-NO_LAND.false) in
    let same : c.position.result ≡ number = grind (arith, nat_tests, c.if-position-number.false) in
    let first : c.passed.result ≡ index * 64 = grind (arith, nat_tests, c.if-passed-at.false) in
    let end : 1024 ≤ c.passed-2.result = grind (arith, nat_tests, c.if-passed-lt-PLACES.false) in
    let start =
    are_passed self.positions self.divided c.args.section number number 0 (index * 64)
    (λ n least short. c.passed.ensures.passed n least (omega (arith, first, short))) in
    let found =
    position_next self.positions self.divided c.args.section number number 0 (index * 64) c.position.result
    (omega (arith, less)) (omega arith) c.position.ensures
    (whole_marks self.divided c.position.result number number (omega (arith, same, few)) (omega (arith, same))
    (omega (arith, same)))
    (omega arith) start in
    rw c.position_at.ensures
    (only_next (marked self.positions self.divided c.args.section number number) 0 _ (index * 64 + 64) found
    (λ c' r' is after.
    let parts = marked_parts self.positions self.divided c.args.section number number c' r' is in
    let on =
    are_passed self.positions self.divided c.args.section number number (index * 64 + 64) c.passed-2.result
    c.passed-2.ensures.passed c' r' is after in
    omega (arith, end, on)))
