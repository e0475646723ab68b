-- There is too little room, or all tracts are put there.
use Rattle.std.proofs.Common.{arith}
use Rattle.twp_calls.proofs.LotReportFacts.{all_put_by, too_many_by}
use Rattle.twp_calls.proofs.lots_report_call.put_account.Goals as goal

pub returns-then-tracts-count-clause-has : goal.returns-then-tracts-count-clause-has
returns-then-tracts-count-clause-has c = λ township lots list account.
    too_many_by township lots list c.args.figures.now c.args.total c.args.tracts.now c.totaled.result
    (omega arith)
    c.totaled.ensures account

pub returns-clause-has : goal.returns-clause-has
returns-clause-has c = λ township lots list account.
    all_put_by township lots list c.args.figures.now c.args.total c.args.tracts.now c.put_tracts.new.tracts _
    (omega arith) c.put_tracts.ensures.length_is c.put_tracts.ensures.plain c.put_tracts.ensures.kept
    c.totaled-2.ensures account
