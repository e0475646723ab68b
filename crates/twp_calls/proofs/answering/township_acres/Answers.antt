-- There is no such account; or the acres are those of the land described, or the description is refused.
use Rattle.std.proofs.Common.{sym, ◌∙◌}
use Rattle.twp_calls.specs.Calls.{AnswersAcres, accepted, on_plat, by_account, by_none}
use Rattle.twp_calls.proofs.CallFacts.{stops_by}
use Rattle.twp_calls.proofs.answering.township_acres.Goals as goal

pub returns-in_default-account_of : goal.returns-in_default-account_of
returns-in_default-account_of c =
    on_plat c.in-Some.plat c.in-Some.ensures
    (by_none (sym c.account_of.ensures ∙ c.in_default-account_of.is) c.bare-in_default-account_of.ensures)

pub returns-in-Ok : goal.returns-in-Ok
returns-in-Ok c =
    on_plat c.in-Some.plat c.in-Some.ensures
    (by_account c.in-Some-account_of.account (sym c.account_of.ensures ∙ c.in-Some-account_of.is)
    (accepted (record {
      hundredths = c.in-Ok.hundredths;
      has = c.in-Ok.ensures;
      answer_is = c.of_acres.ensures;
    })))

pub returns-in-Err : goal.returns-in-Err
returns-in-Err c =
    stops_by c.args.plat.now c.in-Some.plat c.in-Some.ensures c.args.account c.in-Some-account_of.account
    (sym c.account_of.ensures ∙ c.in-Some-account_of.is)
    (λ plat account. AnswersAcres plat c.args.description.now account) c.args.description.now c.in-Err.stop _
    c.of_stop.ensures c.in-Err.ensures
