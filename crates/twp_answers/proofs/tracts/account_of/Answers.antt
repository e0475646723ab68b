-- The heading was read; the tracts after it were added or refused.
use Rattle.std.proofs.Common.{sym, ◌∙◌, subst, length}
use Rattle.std.proofs.lemmas.Result.{err_from_is_err_and}
use Rattle.twp_answers.specs.steps.TractTaking.{AreTractsRefused}
use Rattle.twp_notes.specs.Records.{records_left}
use Rattle.twp_answers.specs.ClearTracts.{AreClearTracts}
use Rattle.twp_answers.proofs.TallyFacts.{no_tally, accepted}
use Rattle.twp_answers.proofs.FirstTractFaults.{after_of_word, first_refused}
use Rattle.twp_answers.proofs.tracts.account_of.Goals as goal
use Rattle.twp_grid.specs.Lands.{STANDARD_LOTS}

pub returns-in_err-take_tracts-clause-fault : goal.returns-in_err-take_tracts-clause-fault
returns-in_err-take_tracts-clause-fault c =
    let one = rw c.if-not-branch.false at c.in_ok-read.ensures in
    let after = after_of_word c.args.bytes.now _ _ (sym c.new.ensures.all ∙ one.0) in
    let heading_is = after.first ∙ c.is_heading.ensures.0 c.if-not-is_heading.false in
    let gone =
    err_from_is_err_and c.from_residual-in_err-take_tracts.result
    c.from_residual-in_err-take_tracts.ensures.1 in
    rw (gone.1, gone.2)
    (first_refused STANDARD_LOTS c.args.plat.now.township c.args.bytes.now c.requires heading_is _
    (subst
    (λ rows. AreTractsRefused STANDARD_LOTS c.args.plat.now.township rows c.in_err-take_tracts.field-0.0)
    (sym after.after) c.in_err-take_tracts.ensures.fault))

pub returns-clause-account : goal.returns-clause-account
returns-clause-account c =
    let one = rw c.if-not-branch.false at c.in_ok-read.ensures in
    let after = after_of_word c.args.bytes.now _ _ (sym c.new.ensures.all ∙ one.0) in
    let heading_is = after.first ∙ c.is_heading.ensures.0 c.if-not-is_heading.false in
    accepted c.args.plat.now c.args.bytes.now _ _ _ c.requires heading_is after.after
    c.in_ok-take_tracts.ensures.few c.in_ok-take_tracts.ensures.taken
    (c.in_ok-write.ensures _ _ c.in_ok-take_tracts.ensures.taken.totals_are)

pub returns-clause-clear : goal.returns-clause-clear
returns-clause-clear c = λ clear.
    let one = rw c.if-not-branch.false at c.in_ok-read.ensures in
    let after = after_of_word c.args.bytes.now _ _ (sym c.new.ensures.all ∙ one.0) in
    subst (λ rows. AreClearTracts rows (length rows)) (sym after.after)
    (c.in_ok-take_tracts.ensures.clear clear)

pub take_tracts-requires-clause-empty : goal.take_tracts-requires-clause-empty
take_tracts-requires-clause-empty c =
    let account = c.new-account.ensures in
    no_tally c.args.plat.now (records_left c.read.new.self) _
    c.in_ok-account.ensures account.land account.totals account.text
