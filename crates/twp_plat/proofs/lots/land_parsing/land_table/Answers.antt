-- The rows were entered; they fill their quarter-quarters, and divide few.
use Rattle.std.proofs.Common.{◌≡◌, ◌∙◌, ap}
use Rattle.twp_notes.specs.Records.{records_left}
use Rattle.twp_land.specs.LotMaps.{layout_of_plat}
use Rattle.twp_land.specs.declared.plat_lots.PlatLots.{PlatLots}
use Rattle.twp_plat.proofs.lots.Filling.{marks_of_lots}
use Rattle.twp_plat.proofs.lots.land_parsing.land_table.Goals as goal

pub first_unfilled-requires : goal.first_unfilled-requires
first_unfilled-requires c =
    marks_of_lots (records_left c.args.records.now) c.enter_rows.new.marks.sections c.enter_rows.new.lots
    c.in_ok-last.ensures.entered

pub returns-clause-lots : goal.returns-clause-lots
returns-clause-lots c =
    let of = rw c.unwrap.ensures at c.of.ensures in
    record {
      marks = c.enter_rows.new.marks.sections;
      entries = c.enter_rows.new.lots;
      entered = c.in_ok-last.ensures.entered;
      filled = c.in_default.ensures;
      few = c.in-Some-map_of_marks.ensures.0;
      positions = c.in-Some-map_of_marks.map.positions;
      divided = c.in-Some-map_of_marks.map.divided;
      layout =
          ap (λ (lots : PlatLots). layout_of_plat lots.mapped lots.map.positions lots.map.divided) of.1
          ∙ c.mapped.ensures.layout;
      marks_are = c.in-Some-map_of_marks.ensures.1;
      returned = of.2;
    }
