-- The heading was read; the tracts after it were added, with their figures, or refused.
use Rattle.std.proofs.Common.{sym, ◌∙◌, subst, arith}
use Rattle.std.proofs.lemmas.Result.{err_from_is_err_and}
use Rattle.twp_answers.specs.steps.TractTaking.{AreTractsRefused}
use Rattle.twp_notes.specs.Records.{records_left}
use Rattle.twp_answers.proofs.FigureLines.{account_of_figures}
use Rattle.twp_answers.proofs.TallyFacts.{no_tally}
use Rattle.twp_answers.proofs.FirstTractFaults.{after_of_word, first_refused}
use Rattle.twp_answers.proofs.account_figures.figures_on.Goals as goal
use Rattle.twp_grid.specs.Lands.{STANDARD_LOTS}

pub returns-in_err-tracts-clause-fault : goal.returns-in_err-tracts-clause-fault
returns-in_err-tracts-clause-fault c =
    let one = rw c.if-not-branch.false at c.in_ok-read.ensures in
    let after = after_of_word c.args.list.now _ _ (sym c.new.ensures.all ∙ one.0) in
    let heading_is = after.first ∙ c.is_heading.ensures.0 c.if-not-is_heading.false in
    let gone =
    err_from_is_err_and c.from_residual-in_err-tracts.result
    c.from_residual-in_err-tracts.ensures.1 in
    rw (gone.1, gone.2)
    (first_refused STANDARD_LOTS c.args.plat.now.township c.args.list.now (omega arith) heading_is _
    (subst (λ rows. AreTractsRefused STANDARD_LOTS c.args.plat.now.township rows c.in_err-tracts.field-0.0)
    (sym after.after) c.in_err-tracts.ensures.fault))

pub returns-clause-account : goal.returns-clause-account
returns-clause-account c =
    let one = rw c.if-not-branch.false at c.in_ok-read.ensures in
    let after = after_of_word c.args.list.now _ _ (sym c.new.ensures.all ∙ one.0) in
    let heading_is = after.first ∙ c.is_heading.ensures.0 c.if-not-is_heading.false in
    account_of_figures c.args.plat.now c.args.list.now _ _ _ c.hundredths.result
    c.hundredths-2.result (omega arith) heading_is after.after
    c.in_ok-tracts.ensures.few c.in_ok-tracts.ensures.taken c.in_ok-tracts.ensures.lines
    c.hundredths.ensures c.hundredths-2.ensures

pub take_figures-requires-clause-empty : goal.take_figures-requires-clause-empty
take_figures-requires-clause-empty c =
    let account = c.new-account.ensures in
    no_tally c.args.plat.now (records_left c.read.new.self) _
    account.names account.land account.totals account.text
