-- For each lot in the set, its places are subtracted from the count and its piece is added; the
-- remaining places lie off the lots.
use Rattle.std.proofs.Common.{◌≡◌, ℕ, ◌+◌, ◌-◌, ◌≤◌, sym, arith}
use Rattle.twp_land.proofs.LotFacts.{few_lots}
use Rattle.twp_plat.specs.steps.Accounts.{over_by}
use Rattle.twp_plat.specs.steps.Bounds.{SECTION_PLACES_MOST}
use Rattle.twp_plat.proofs.SectionSums.{places_where, piece_where, places_held, places_not_held, piece_held}
use Rattle.twp_plat.proofs.SectionSums.{piece_not_held, of_lots-none, of_lots-next, lots_within, few_places}
use Rattle.twp_plat.proofs.SectionSums.{sum_of_section}
use Rattle.twp_plat.proofs.RegularUnits.{regular_by}
use Rattle.twp_plat.proofs.AreaFacts.{lot_at_is, grows, bounded}
use Rattle.twp_plat.proofs.land_area.units_with_lots.Goals as goal
use Rattle.twp_plat.proofs.land_area.units_with_lots.Goals.{then-holds, else-holds}

pub overflow_add-lot-end : goal.overflow_add-lot-end
overflow_add-lot-end g c =
    let few = few_lots c.args.section c.lot_count-lot-end.ensures.section in omega arith

pub loop-lot-init : goal.loop-lot-init
loop-lot-init g c =
    let held = g.L.PlaceSet.places c.args.land.now c.args.section in
    let range = c.lot_count-lot-end.ensures.section in
    let counted = rw c.whole.ensures at c.count-off_lots.ensures in
    let none = of_lots-none c.args.section (places_where held) range in
    record {
      taken = omega arith;
      gained =
          λ pieces are. sym (of_lots-none c.args.section (piece_where held (pieces c.args.section)) range);
      most = omega arith;
      first = omega arith;
    }

pub overflow_sub-off_lots : goal.overflow_sub-off_lots
overflow_sub-off_lots g c =
    let held = g.L.PlaceSet.places c.args.land.now c.args.section in
    let range = c.lot_count-lot-end.ensures.section in
    let at =
    lot_at_is c.args.section c.loop-lot.lot _ c.unwrap-column.result c.lot_place.ensures.position
    c.lot_place.ensures.within c.unwrap-column.ensures in
    let next =
    of_lots-next c.args.section c.loop-lot.lot c.unwrap-column.result.0 c.unwrap-column.result.1
    (places_where held) range (omega arith) at.within at.position in
    let within = lots_within c.args.section (c.loop-lot.lot + 1) held range (λ lot.
    c.requires.whole c.args.section lot range) in
    let there =
    places_held held c.unwrap-column.result.0 c.unwrap-column.result.1 c.holds.result c.holds.ensures
    c.if-holds.true in
    omega (arith, c.loop-lot.invariant.taken)

pub loop-lot-preserved : goal.loop-lot-preserved
loop-lot-preserved g c =
    let held = g.L.PlaceSet.places c.args.land.now c.args.section in
    let range = c.lot_count-lot-end.ensures.section in
    let so_far = c.loop-lot.invariant in
    let column : ℕ = c.unwrap-column.result.0 in
    let row : ℕ = c.unwrap-column.result.1 in
    let at =
    lot_at_is c.args.section c.loop-lot.lot _ c.unwrap-column.result c.lot_place.ensures.position
    c.lot_place.ensures.within c.unwrap-column.ensures in
    let places =
    of_lots-next c.args.section c.loop-lot.lot column row (places_where held) range (omega arith) at.within
    at.position in
    let pieces_next = λ (pieces : ℕ → ℕ → ℕ → ℕ).
    of_lots-next c.args.section c.loop-lot.lot column row (piece_where held (pieces c.args.section)) range
    (omega arith) at.within at.position in
    elim c.if-holds.branch [
      | then-holds w ↦
          let there = places_held held column row c.holds.result c.holds.ensures w.if-holds.true in
          let within = lots_within c.args.section (c.loop-lot.lot + 1) held range (λ lot.
          c.requires.whole c.args.section lot range) in
          let added = w.lot_units-units.ensures in
          record {
            taken = omega (arith, so_far.taken, w.off_lots-is);
            gained = λ pieces are.
                let piece = added.units pieces column row are at.position in
                let there =
                piece_held held (pieces c.args.section) column row c.holds.result c.holds.ensures
                w.if-holds.true in
                omega (arith, so_far.gained pieces are, pieces_next pieces, w.units-is);
            most =
                rw w.units-is
                (grows c.loop-lot.lot _ c.loop-lot.units w.lot_units-units.result so_far.first so_far.most
                added.most);
            first = omega arith;
          }
      | else-holds w ↦
          let there = places_not_held held column row c.holds.result c.holds.ensures w.if-holds.false in
          record {
            taken = omega (arith, so_far.taken, w.off_lots-is);
            gained = λ pieces are.
                let there =
                piece_not_held held (pieces c.args.section) column row c.holds.result c.holds.ensures
                w.if-holds.false in
                omega (arith, so_far.gained pieces are, pieces_next pieces, w.units-is);
            most =
                rw w.units-is
                (rw (← plus_none c.loop-lot.units)
                (grows c.loop-lot.lot _ c.loop-lot.units 0 so_far.first so_far.most (omega arith)));
            first = omega arith;
          }
    ]
  where
    plus_none : (n : ℕ) → n + 0 ≡ n
    plus_none n = omega arith

pub regular_units-requires-clause-places : goal.regular_units-requires-clause-places
regular_units-requires-clause-places g c =
    let few = few_places (g.L.PlaceSet.places c.args.land.now c.args.section) in
    omega (arith, c.loop-lot.invariant.taken)

pub returns-clause-sum : goal.returns-clause-sum
returns-clause-sum g c = λ pieces are.
    rw (c.regular_units.ensures, c.over-over.ensures.value)
    (sum_of_section (over_by c.args.account c.args.plat.now) c.args.section c.loop-lot.lot c.loop-lot.off_lots
    c.loop-lot.units (g.L.PlaceSet.places c.args.land.now c.args.section) (pieces c.args.section)
    (regular_by c.args.account c.args.plat.now pieces c.args.section c.over-over.ensures.plat are
    c.lot_count-lot-end.ensures.section)
    c.lot_count-lot-end.ensures.section
    (λ lot. c.requires.whole c.args.section lot c.lot_count-lot-end.ensures.section) (omega arith)
    c.loop-lot.invariant.taken (c.loop-lot.invariant.gained pieces are))

pub returns-clause-most : goal.returns-clause-most
returns-clause-most g c =
    let few = few_places (g.L.PlaceSet.places c.args.land.now c.args.section) in
    let few' = few_lots c.args.section c.lot_count-lot-end.ensures.section in
    let places : c.loop-lot.off_lots ≤ SECTION_PLACES_MOST = omega (arith, c.loop-lot.invariant.taken) in
    let regular = rw c.over-over.ensures.value at c.regular_units.ensures in
    bounded (c.loop-lot.lot - 1) c.loop-lot.units c.loop-lot.off_lots (over_by c.args.account c.args.plat.now)
    c.regular_units.result (omega arith) places c.loop-lot.invariant.most regular
