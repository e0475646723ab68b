-- The heading was read; the tracts after it were added, with their figures, or refused.
use Rattle.std.proofs.Common.{sym, ◌∙◌, subst, arith}
use Rattle.std.proofs.lemmas.Result.{err_from_is_err_and}
use Rattle.twp_notes.specs.Records.{records_left}
use Rattle.twp_answers.proofs.EarlierFacts.{no_earlier}
use Rattle.twp_answers.proofs.FirstTractFaults.{after_of_word}
use Rattle.twp_answers.specs.steps.LotTaking.{AreRefusedByLots}
use Rattle.twp_answers.proofs.FirstLotTractFaults.{first_refused_by}
use Rattle.twp_answers.proofs.LotFigures.{account_of}
use Rattle.twp_plat.specs.LotTables.{lots_of}
use Rattle.twp_answers.proofs.lot_account.account_by_lots.Goals as goal

pub returns-in_err-tracts-clause-fault : goal.returns-in_err-tracts-clause-fault
returns-in_err-tracts-clause-fault c =
    let one = rw c.if-not-branch.false at c.in_ok-read.ensures in
    let after = after_of_word c.args.list.now _ _ (sym c.new.ensures.all ∙ one.0) in
    let heading_is = after.first ∙ c.is_heading.ensures.0 c.if-not-is_heading.false in
    let gone =
    err_from_is_err_and c.from_residual-in_err-tracts.result c.from_residual-in_err-tracts.ensures.1 in
    rw (gone.1, gone.2)
    (first_refused_by c.args.township c.args.lots.now c.args.list.now (omega arith) heading_is _
    (subst (λ rows. AreRefusedByLots c.args.township c.args.lots.now rows c.in_err-tracts.field-0.0)
    (sym after.after) c.in_err-tracts.ensures.fault))

pub take_tracts-requires-clause-empty : goal.take_tracts-requires-clause-empty
take_tracts-requires-clause-empty c =
    no_earlier (lots_of c.args.lots.now) c.args.township (records_left c.read.new.self) _
    c.new-earlier.ensures.names c.new-earlier.ensures.land

pub unreachable-requires : goal.unreachable-requires
unreachable-requires c = c.in_ok-tracts.ensures.returned _ _ c.in_default.ensures.lacking.lacks

pub returns-clause-account : goal.returns-clause-account
returns-clause-account c =
    let one = rw c.if-not-branch.false at c.in_ok-read.ensures in
    let after = after_of_word c.args.list.now _ _ (sym c.new.ensures.all ∙ one.0) in
    let heading_is = after.first ∙ c.is_heading.ensures.0 c.if-not-is_heading.false in
    account_of c.args.township c.args.lots.now c.args.list.now _ _ _ c.in-Ok.area c.hundredths.result
    (omega arith)
    heading_is
    after.after c.in_ok-tracts.ensures.few c.in_ok-tracts.ensures.earlier c.in_ok-tracts.ensures.figures
    (record { figures = c.in-Ok.ensures.figures; area_is = c.in-Ok.ensures.area }) c.hundredths.ensures
