use Rattle.std.proofs.Common.{◌≡◌, true, refl}
use Rattle.std.proofs.lemmas.Bool.{false≢true}
use Rattle.twp_land.specs.steps.Marked.{marked}
use Rattle.twp_land.proofs.MarkedLoops.{each_next}
use Rattle.twp_land.proofs.MarkedLots.{lot_of_marked, marked_of_lot}
use Rattle.twp_land.proofs.OnlyLots.{only_met}
use Rattle.twp_land.proofs.lot_map.LotMapLotting.meets_lot.Goals as goal

pub returns-then-meets : goal.returns-then-meets
returns-then-meets g c =
    let self = c.args.self.now in
    let met = c.if-meets.ensures.0 refl in
    let lot =
    lot_of_marked self.positions self.divided c.args.section c.args.number met.column met.row c.requires
    (c.in-Some-next.ensures.next.is_set met.column met.row met.inside) in (
      λ _. record {
        column = met.column;
        row = met.row;
        place = lot.0;
        of_lot = lot.1;
        is_held = met.is_held;
      },
      λ _. refl,
    )

pub loop-found-preserved : goal.loop-found-preserved
loop-found-preserved g c =
    let self = c.args.self.now in
    record {
      none =
          each_next (marked self.positions self.divided c.args.section c.args.number c.args.number)
          c.loop-found.from
          (λ column row. ¬ (g.S.PlaceSet.places c.args.set.now c.args.section column row ≡ true))
          c.in-Some-next.found.block c.in-Some-next.found.end c.in-Some-next.ensures.next
          c.loop-found.invariant.none
          (λ column row inside held. false≢true
          (c.if-meets.ensures.1
          (record { column = column; row = row; inside = inside; is_held = held })));
    }

pub returns : goal.returns
returns g c =
    let self = c.args.self.now in (
      λ no. absurd (false≢true no),
      λ lot. absurd
          (c.loop-found.invariant.none lot.column lot.row
          (marked_of_lot self.positions self.divided c.args.section c.args.number lot.column lot.row
          lot.of_lot)
          (c.in_default-next.ensures.next lot.column lot.row
          (marked_of_lot self.positions self.divided c.args.section c.args.number lot.column lot.row
          lot.of_lot))
          lot.is_held),
    )

pub returns-in-Some : goal.returns-in-Some
returns-in-Some g c =
    let self = c.args.self.now in
    let both =
    only_met self.positions self.divided c.args.section c.args.number
    (g.S.PlaceSet.places c.args.set.now c.args.section) c.in-Some.block c.requires c.in-Some.ensures in
    (λ is. both.0 (c.meets.ensures.0 is), λ lot. c.meets.ensures.1 (both.1 lot))
