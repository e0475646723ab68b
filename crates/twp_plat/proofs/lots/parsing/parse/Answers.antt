-- The first two records were read; the lots of the others are the table's, or were refused.
use Rattle.std.proofs.Common.{◌∷◌, List, ap, sym, ◌∙◌}
use Rattle.std.proofs.lemmas.Result.{err_from_is_err_and}
use Rattle.csv.specs.Records.{fields_of}
use Rattle.twp_notes.specs.Records.{Fields, records_left}
use Rattle.twp_plat.specs.steps.LotReading.{heading_fields}
use Rattle.twp_plat.specs.LotRecords.{lots_heading}
use Rattle.twp_plat.specs.LandRecords.{land_heading}
use Rattle.twp_plat.proofs.lots.RowPlaces.{after_of_word, few_rows}
use Rattle.twp_plat.proofs.lots.FirstPlatFaults.{plat_refused}
use Rattle.twp_plat.proofs.lots.FirstLotFaults.{lots_of_entries, lots_refused}
use Rattle.twp_plat.proofs.lots.LandTables.{land_answer}
use Rattle.twp_plat.proofs.lots.parsing.parse.Goals as goal

pub returns-in_err-plat-clause-answer : goal.returns-in_err-plat-clause-answer
returns-in_err-plat-clause-answer c =
    let one = rw c.if-not-branch.false at c.in_ok-read.ensures in
    let two = rw c.if-not-branch-2.false at c.in_ok-read-2.ensures in
    let gone =
    err_from_is_err_and c.from_residual-in_err-plat.result c.from_residual-in_err-plat.ensures.1 in
    rw (gone.1, gone.2)
    (plat_refused c.args.bytes.now c.in-Some.heading (fields_of c.read.new.row) (fields_of c.read-2.new.row)
    (records_left c.read-2.new.self) c.in_err-plat.field-0.0 c.requires
    (sym c.new.ensures.all ∙ one.0 ∙ ap (λ (more : List Fields). fields_of c.read.new.row ∷ more) two.0)
    c.in-Some.ensures c.in_err-plat.ensures.fault)

pub enter_lots-requires-clause-few : goal.enter_lots-requires-clause-few
enter_lots-requires-clause-few c =
    let one = rw c.if-not-branch.false at c.in_ok-read.ensures in
    let two = rw c.if-not-branch-2.false at c.in_ok-read-2.ensures in
    let after =
    after_of_word c.args.bytes.now (heading_fields c.in-Some.heading) _ _ _ _ _ c.in_ok-plat.plat.township
    c.in_ok-plat.plat.date c.requires c.new.ensures.all one.0 two.0 c.in-Some.ensures
    c.in_ok-plat.ensures.plat in
    few_rows c.args.bytes.now (heading_fields c.in-Some.heading) _ after

pub land_table-requires-clause-few : goal.land_table-requires-clause-few
land_table-requires-clause-few c =
    let one = rw c.if-not-branch.false at c.in_ok-read.ensures in
    let two = rw c.if-not-branch-2.false at c.in_ok-read-2.ensures in
    let after =
    after_of_word c.args.bytes.now (heading_fields c.in-Some.heading) _ _ _ _ _ c.in_ok-plat.plat.township
    c.in_ok-plat.plat.date c.requires c.new.ensures.all one.0 two.0 c.in-Some.ensures
    c.in_ok-plat.ensures.plat in
    few_rows c.args.bytes.now (heading_fields c.in-Some.heading) _ after

pub returns-in_err-figures-in-Standard-clause-answer : goal.returns-in_err-figures-in-Standard-clause-answer
returns-in_err-figures-in-Standard-clause-answer c =
    let one = rw c.if-not-branch.false at c.in_ok-read.ensures in
    let two = rw c.if-not-branch-2.false at c.in_ok-read-2.ensures in
    let after =
    after_of_word c.args.bytes.now lots_heading _ _ _ _ _ c.in_ok-plat.plat.township c.in_ok-plat.plat.date
    c.requires c.new.ensures.all one.0 two.0 (rw c.in-Standard.is at c.in-Some.ensures)
    c.in_ok-plat.ensures.plat in
    let gone =
    err_from_is_err_and c.from_residual-in_err-figures-in-Standard.result
    c.from_residual-in_err-figures-in-Standard.ensures.1 in
    rw (gone.1, gone.2)
    (lots_refused c.args.bytes.now _ c.in_err-figures-in-Standard.field-0.0 after
    c.in_err-figures-in-Standard.ensures.fault)

pub returns-in-Standard-clause-answer : goal.returns-in-Standard-clause-answer
returns-in-Standard-clause-answer c =
    let one = rw c.if-not-branch.false at c.in_ok-read.ensures in
    let two = rw c.if-not-branch-2.false at c.in_ok-read-2.ensures in
    let after =
    after_of_word c.args.bytes.now lots_heading _ _ _ _ _ c.in_ok-plat.plat.township c.in_ok-plat.plat.date
    c.requires c.new.ensures.all one.0 two.0 (rw c.in-Standard.is at c.in-Some.ensures)
    c.in_ok-plat.ensures.plat in
    lots_of_entries c.args.bytes.now _ c.standard.result after (record {
      figures = c.in_ok-figures-in-Standard.figures;
      entered = c.in_ok-figures-in-Standard.ensures.entered;
      layout = c.standard.ensures.layout;
      figures_are = c.standard.ensures.figures;
    })

pub returns-clause-answer : goal.returns-clause-answer
returns-clause-answer c =
    let one = rw c.if-not-branch.false at c.in_ok-read.ensures in
    let two = rw c.if-not-branch-2.false at c.in_ok-read-2.ensures in
    let after =
    after_of_word c.args.bytes.now land_heading _ _ _ _ _ c.in_ok-plat.plat.township c.in_ok-plat.plat.date
    c.requires c.new.ensures.all one.0 two.0 (rw c.in-Land.is at c.in-Some.ensures)
    c.in_ok-plat.ensures.plat in
    land_answer c.args.bytes.now _ c.land_table.result after c.land_table.ensures.township
    c.land_table.ensures.date c.land_table.ensures.lots c.land_table.ensures.fault
