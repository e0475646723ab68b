-- The parts of one more section, and then those of all.
use Rattle.std.proofs.Common.{◌≡◌, ◌-◌, subst, sym, arith}
use Rattle.twp_grid.specs.Winding.{IsSection, SECTION_COUNT}
use Rattle.twp_land.proofs.LotFacts.{section_is}
use Rattle.twp_calls.specs.LandParts.{ArePartsTo}
use Rattle.twp_calls.proofs.PartFacts.{no_parts_yet, parts_after}
use Rattle.twp_calls.proofs.land_parts.parts_of.Goals as goal

pub loop-number-init : goal.loop-number-init
loop-number-init g c = record {
  first = omega arith;
  parts = no_parts_yet (g.L.PlaceSet.places c.args.land.now) _ c.new-parts.ensures.items;
}

pub add_section-requires : goal.add_section-requires
add_section-requires g c =
    let same =
    section_is c.loop-number.number c.unwrap-section.result _ c.new.ensures c.unwrap-section.ensures in
    subst (λ s. IsSection s) (sym same) (c.loop-number.invariant.first, omega arith)

pub loop-number-preserved : goal.loop-number-preserved
loop-number-preserved g c =
    let same =
    section_is c.loop-number.number c.unwrap-section.result _ c.new.ensures c.unwrap-section.ensures in
    record {
      first = omega arith;
      parts =
          parts_after c.loop-number.number c.unwrap-section.result (g.L.PlaceSet.places c.args.land.now) _ _
          c.loop-number.invariant.first same c.loop-number.invariant.parts c.in_ok-add_section.ensures;
    }

pub returns : goal.returns
returns g c =
    let last : c.loop-number.number - 1 ≡ SECTION_COUNT = omega arith in
    subst (λ n. ArePartsTo n (g.L.PlaceSet.places c.args.land.now) c.loop-number.parts.items) last
    c.loop-number.invariant.parts
