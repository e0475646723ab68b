-- A position has the lot's number, or some place does.
use Rattle.std.proofs.Common.{◌<◌, refl, arith}
use Rattle.std.proofs.lemmas.Bool.Decides.{nat_tests}
use Rattle.twp_land.specs.steps.Marked.{marked}
use Rattle.twp_land.proofs.MarkedLots.{some_left}
use Rattle.twp_land.proofs.OnlyLots.{lot_of_byte, lot_of_place, place_of_lot}
use Rattle.twp_land.proofs.lot_map.LotMapLotting.has_lot.Goals as goal

pub returns-then-has_byte : goal.returns-then-has_byte
returns-then-has_byte c =
    let self = c.args.self.now in
    let some : 0 < c.args.number = grind (arith, nat_tests, c.if-number-eq0.false) in
    let few : c.args.number < 100 = omega (arith, c.if-number-from.false, c.from.ensures) in
    let byte = c.if-has_byte.ensures refl in (
      λ _. lot_of_byte self.positions self.divided c.args.section c.args.number byte.0 byte.1 byte.2 some few,
      λ _. refl,
    )

pub returns : goal.returns
returns c =
    let self = c.args.self.now in
    let some : 0 < c.args.number = grind (arith, nat_tests, c.if-number-eq0.false) in
    let few : c.args.number < 100 = omega (arith, c.if-number-from.false, c.from.ensures) in
    let both =
    some_left c.next.result (marked self.positions self.divided c.args.section c.args.number c.args.number)
    (λ found. found.block) (λ found. found.end) c.next.ensures.next in
    rw c.is_some.ensures (
      λ is.
          let place = both.0 is in
          lot_of_place self.positions self.divided c.args.section c.args.number place.0 place.1 place.2 some
          few,
      λ has. both.1 (place_of_lot self.positions self.divided c.args.section c.args.number has),
    )
