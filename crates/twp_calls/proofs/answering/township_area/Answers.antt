-- There is no such account; or the parts are those of the area of the land described, or the description is
-- refused.
use Rattle.std.proofs.Common.{sym, ◌∙◌}
use Rattle.twp_calls.specs.Calls.{HasArea, accepted, on_plat, by_account, by_none}
use Rattle.twp_calls.proofs.CallFacts.{stops_by}
use Rattle.twp_calls.proofs.answering.township_area.Goals as goal

pub returns-in_default-account_of-clause-answer : goal.returns-in_default-account_of-clause-answer
returns-in_default-account_of-clause-answer c =
    on_plat c.in-Some.plat c.in-Some.ensures
    (by_none (sym c.account_of.ensures ∙ c.in_default-account_of.is) c.bare-in_default-account_of.ensures)

pub returns-in-Ok-clause-answer : goal.returns-in-Ok-clause-answer
returns-in-Ok-clause-answer c =
    on_plat c.in-Some.plat c.in-Some.ensures
    (by_account c.in-Some-account_of.account (sym c.account_of.ensures ∙ c.in-Some-account_of.is)
    (accepted (record {
      area = c.in-Ok.exact;
      has = c.in-Ok.ensures;
      parts = c.of.ensures;
      answer_is = c.bare-in-Ok.ensures;
    })))

pub returns-in-Err-clause-answer : goal.returns-in-Err-clause-answer
returns-in-Err-clause-answer c =
    stops_by c.args.plat.now c.in-Some.plat c.in-Some.ensures c.args.account c.in-Some-account_of.account
    (sym c.account_of.ensures ∙ c.in-Some-account_of.is)
    (λ plat account. HasArea plat c.args.description.now account c.args.area.now) c.args.description.now
    c.in-Err.stop _ c.of_stop.ensures c.in-Err.ensures
