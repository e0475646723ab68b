-- In a section without lots, each place lies off the lots.
use Rattle.std.proofs.Common.{◌≡◌, ℕ, ◌+◌, ◌*◌, ◌≤◌, sym, subst, arith}
use Rattle.twp_grid.specs.Places.{PLACE_DIGITS}
use Rattle.twp_plat.specs.LandAreas.{section_sum}
use Rattle.twp_plat.specs.steps.Accounts.{over_by}
use Rattle.twp_plat.specs.steps.Bounds.{OF_POSITION, SECTION_UNITS_MOST}
use Rattle.twp_plat.proofs.SectionSums.{places_where, piece_where, of_lots-none, few_places, sum_of_section}
use Rattle.twp_plat.proofs.RegularUnits.{regular_by}
use Rattle.twp_plat.proofs.AreaFacts.{bounded}
use Rattle.twp_plat.proofs.land_area.units_in_section.Goals as goal

none_more : (n : ℕ) → 0 + n ≡ n
none_more n = omega arith

pub regular_units-requires-clause-places : goal.regular_units-requires-clause-places
regular_units-requires-clause-places g c =
    let counted = rw c.whole.ensures at c.count.ensures in
    let few = few_places (g.L.PlaceSet.places c.args.land.now c.args.section) in
    omega (arith, counted)

pub returns-clause-sum : goal.returns-clause-sum
returns-clause-sum g c = λ pieces are.
    let held = g.L.PlaceSet.places c.args.land.now c.args.section in
    let range = c.lot_count.ensures.section in
    let counted = rw c.whole.ensures at c.count.ensures in
    let none = of_lots-none c.args.section (places_where held) range in
    rw (c.regular_units.ensures, c.over.ensures.value)
    (subst (λ n. OF_POSITION * n ≡ section_sum PLACE_DIGITS (pieces c.args.section) held) (none_more _)
    (sum_of_section (over_by c.args.account c.args.plat.now) c.args.section 1 c.count.result 0 held
    (pieces c.args.section)
    (regular_by c.args.account c.args.plat.now pieces c.args.section c.over.ensures.plat are range) range
    (λ lot. c.requires.whole c.args.section lot range) (omega (arith, c.lot_count.ensures.count))
    (omega (arith, none, counted))
    (sym (of_lots-none c.args.section (piece_where held (pieces c.args.section)) range))))

pub returns-clause-most : goal.returns-clause-most
returns-clause-most g c =
    let counted = rw c.whole.ensures at c.count.ensures in
    let few = few_places (g.L.PlaceSet.places c.args.land.now c.args.section) in
    let regular = rw c.over.ensures.value at c.regular_units.ensures in
    subst (λ n. n ≤ SECTION_UNITS_MOST * over_by c.args.account c.args.plat.now)
    (none_more c.regular_units.result)
    (bounded 0 0 c.count.result (over_by c.args.account c.args.plat.now) c.regular_units.result (omega arith)
    (omega (arith, counted)) (omega arith) regular)
