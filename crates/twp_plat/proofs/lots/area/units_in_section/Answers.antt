-- The next lot by number counts if the land contains it; the numbers between are those of no lot.
use Rattle.std.proofs.Common.{◌≡◌, ◌<◌, ◌+◌, ◌*◌, ℕ, zero, suc, arith, refl, sym, ◌∙◌}
use Rattle.std.proofs.lemmas.Bool.{false≢true}
use Rattle.twp_land.specs.LotMaps.{land_off_lots}
use Rattle.twp_land.specs.steps.PlatLotsLots.{plat_are_lots}
use Rattle.twp_plat.specs.LotTables.{figure_of, lots_of}
use Rattle.twp_plat.proofs.SectionSums.{few_places}
use Rattle.twp_plat.proofs.ContainedLots.{met_contains, next_first, unmet_lacks, units_first, units_if}
use Rattle.twp_plat.proofs.ContainedLots.{units_last, units_next, units_unless}
use Rattle.twp_plat.proofs.lots.area.units_in_section.Goals as goal

none_left : (n : ℕ) → (0 < n → ⊥) → n ≡ 0
none_left zero none = refl
none_left (suc n) none = absurd (none (omega arith))

pub loop-number-init : goal.loop-number-init
loop-number-init g c =
    let lots = c.args.lots.now in
    record {
      sum =
          units_first (lots_of lots) (figure_of lots) (g.L.PlaceSet.places c.args.land.now) c.args.section
          (plat_are_lots lots.plat.mapped lots.plat.map.positions lots.plat.map.divided);
      most = omega arith;
      few = omega arith;
    }

pub returns-in_default-figure-clause-lacking : goal.returns-in_default-figure-clause-lacking
returns-in_default-figure-clause-lacking g c =
    let lots = c.args.lots.now in
    let places = g.L.PlaceSet.places c.args.land.now in
    record {
      here = refl;
      lacks = record {
        section_is = c.requires.section;
        is_held =
            met_contains (lots_of lots) places c.args.section c.in-Some.number
            (c.requires.whole c.args.section c.in-Some.number c.requires.section)
            (c.if-meets_lot.ensures.0 refl);
        none = none_left (figure_of lots c.args.section c.in-Some.number) c.in_default-figure.ensures.figure;
      };
      first = λ other lacks.
          next_first (lots_of lots) (figure_of lots) places c.args.section c.loop-number.units
          c.loop-number.after c.in-Some.number other c.loop-number.invariant.sum c.in-Some.ensures lacks;
    }

pub loop-number-smaller-in-Some-figure : goal.loop-number-smaller-in-Some-figure
loop-number-smaller-in-Some-figure g c =
    let lots = c.args.lots.now in
    let has = c.in-Some.ensures.has in
    let few =
    (plat_are_lots lots.plat.mapped lots.plat.map.positions lots.plat.map.divided).numbered c.args.section
    c.in-Some.number has.0 has.1 has.2 in
    omega (arith, few.1, c.in-Some.ensures.after)

pub loop-number-preserved-in-Some-figure : goal.loop-number-preserved-in-Some-figure
loop-number-preserved-in-Some-figure g c =
    let lots = c.args.lots.now in
    let places = g.L.PlaceSet.places c.args.land.now in
    let has = c.in-Some.ensures.has in
    let few =
    (plat_are_lots lots.plat.mapped lots.plat.map.positions lots.plat.map.divided).numbered c.args.section
    c.in-Some.number has.0 has.1 has.2 in
    let figure = c.in-Some-figure.ensures.figure in
    let contains =
    met_contains (lots_of lots) places c.args.section c.in-Some.number
    (c.requires.whole c.args.section c.in-Some.number c.requires.section) (c.if-meets_lot.ensures.0 refl) in
    record {
      sum =
          units_next (lots_of lots) (figure_of lots) places c.args.section c.loop-number.units
          c.loop-number.after c.in-Some.number (100000 * c.from.result) c.loop-number.invariant.sum
          c.in-Some.ensures
          (rw (c.from.ensures, figure.1)
          (sym (units_if (lots_of lots) (figure_of lots) places c.args.section c.in-Some.number contains)))
          (λ lacks. absurd (omega (arith, lacks.none, figure.0)));
      most =
          omega (
            arith,
            c.loop-number.invariant.most,
            c.in-Some.ensures.after,
            c.from.ensures,
            c.in-Some-figure.ensures.most,
          );
      few = few.1;
    }

pub loop-number-smaller : goal.loop-number-smaller
loop-number-smaller g c =
    let lots = c.args.lots.now in
    let has = c.in-Some.ensures.has in
    let few =
    (plat_are_lots lots.plat.mapped lots.plat.map.positions lots.plat.map.divided).numbered c.args.section
    c.in-Some.number has.0 has.1 has.2 in
    omega (arith, few.1, c.in-Some.ensures.after)

pub loop-number-preserved : goal.loop-number-preserved
loop-number-preserved g c =
    let lots = c.args.lots.now in
    let places = g.L.PlaceSet.places c.args.land.now in
    let are = plat_are_lots lots.plat.mapped lots.plat.map.positions lots.plat.map.divided in
    let has = c.in-Some.ensures.has in
    let few = are.numbered c.args.section c.in-Some.number has.0 has.1 has.2 in
    let out =
    unmet_lacks (lots_of lots) places c.args.section c.in-Some.number are
    (c.requires.whole c.args.section c.in-Some.number c.requires.section) has
    (λ held. false≢true (c.if-meets_lot.ensures.1 held)) in
    let same : c.loop-number.units + 0 ≡ c.loop-number.units = omega arith in
    record {
      sum =
          rw same at
          (units_next (lots_of lots) (figure_of lots) places c.args.section c.loop-number.units
          c.loop-number.after c.in-Some.number 0 c.loop-number.invariant.sum c.in-Some.ensures
          (sym (units_unless (lots_of lots) (figure_of lots) places c.args.section c.in-Some.number out))
          (λ lacks. false≢true (sym out ∙ lacks.is_held)));
      most = omega (arith, c.loop-number.invariant.most, c.in-Some.ensures.after);
      few = few.1;
    }

pub returns-clause-units : goal.returns-clause-units
returns-clause-units g c =
    let lots = c.args.lots.now in
    let last =
    units_last (lots_of lots) (figure_of lots) (g.L.PlaceSet.places c.args.land.now) c.args.section
    c.loop-number.units c.loop-number.after c.loop-number.invariant.sum c.loop-number.invariant.few
    c.in_default.ensures in
    rw (last.0, c.from-2.ensures, c.off_lots_count.ensures) refl

pub returns-clause-most : goal.returns-clause-most
returns-clause-most g c =
    let lots = c.args.lots.now in
    let few =
    few_places
    (land_off_lots (lots_of lots) c.args.section (g.L.PlaceSet.places c.args.land.now c.args.section)) in
    omega (
      arith,
      c.loop-number.invariant.most,
      c.loop-number.invariant.few,
      few,
      c.from-2.ensures,
      c.off_lots_count.ensures,
    )

pub returns-clause-figures : goal.returns-clause-figures
returns-clause-figures g c =
    let lots = c.args.lots.now in
    (units_last (lots_of lots) (figure_of lots) (g.L.PlaceSet.places c.args.land.now) c.args.section
    c.loop-number.units c.loop-number.after c.loop-number.invariant.sum c.loop-number.invariant.few
    c.in_default.ensures).1
