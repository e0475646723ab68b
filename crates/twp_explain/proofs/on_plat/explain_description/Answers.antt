use Rattle.twp_answers.specs.Answers.{IsNoDescription}
use Rattle.twp_explain.proofs.ShownFacts.{found_is, explained_where, shown_land}
use Rattle.twp_explain.proofs.on_plat.explain_description.Goals as goal
use Rattle.twp_grid.specs.Lands.{lotting}

pub returns-in_ok-explain_stop-in-Err-clause-refusal :
    goal.returns-in_ok-explain_stop-in-Err-clause-refusal
returns-in_ok-explain_stop-in-Err-clause-refusal g c =
    found_is
    (IsNoDescription (lotting (g.P.Lotting.layout c.args.lots.now)) c.args.township
    c.args.description.now.bytes.now)
    c.in-Err.stop
    c.in_ok-explain_stop-in-Err.field-0.refusal c.in-Err.ensures.found
    c.in_ok-explain_stop-in-Err.ensures.refusal

pub returns-in_ok-explain_stop-in-Err-clause-spot : goal.returns-in_ok-explain_stop-in-Err-clause-spot
returns-in_ok-explain_stop-in-Err-clause-spot g c =
    explained_where _ c.of_file-origin.result c.args.description.now c.args.township c.in-Err.stop
    c.in_ok-explain_stop-in-Err.field-0 c.of_file-origin.ensures.whole c.of_file-origin.ensures.file
    c.in-Err.ensures.shown c.in_ok-explain_stop-in-Err.ensures.refusal
    c.in_ok-explain_stop-in-Err.ensures.spot

pub returns-in_ok-explain_stop-in-Err-clause-place : goal.returns-in_ok-explain_stop-in-Err-clause-place
returns-in_ok-explain_stop-in-Err-clause-place g c =
    shown_land _ c.of_file-origin.result c.args.description.now c.args.township c.in-Err.stop
    c.in_ok-explain_stop-in-Err.field-0 c.of_file-origin.ensures.whole c.of_file-origin.ensures.file
    c.in-Err.ensures.shown c.in_ok-explain_stop-in-Err.ensures.place
