-- Nothing is explained of land on the plat of the notes, or where the refusal is another.
use Rattle.std.proofs.Common.{subst}
use Rattle.twp_answers.specs.Answers.{IsNoDescription}
use Rattle.twp_diagnose.specs.Findings.{IfFound}
use Rattle.twp_explain.specs.Refusals.{DescribeLand}
use Rattle.twp_explain.proofs.FindingFacts.{land_is_none, none_of_land, of_land, of_description}
use Rattle.twp_explain.specs.ExplainedPlaces.{IsExplainedWhereRefused}
use Rattle.twp_explain.proofs.MessageFacts.{shows_notes, shows_text}
use Rattle.twp_explain.proofs.ShownFacts.{platted_tells_none, tells_where}
use Rattle.twp_explain.proofs.explaining.explain_land.Goals as goal
use Rattle.twp_grid.specs.Lands.{STANDARD_LOTS}

pub returns-in-Err-clause-none : goal.returns-in-Err-clause-none
returns-in-Err-clause-none g c =
    none_of_land c.explain.result c.args.notes.now.bytes.now c.args.description.now.bytes.now c.in-Err.stop
    c.args.verdict
    (of_land c.args.notes.now.bytes.now c.args.description.now.bytes.now c.in-Err.stop c.in-Err.ensures.found)
    c.explain.ensures.none

pub returns-in-Ok-describe-clause-none : goal.returns-in-Ok-describe-clause-none
returns-in-Ok-describe-clause-none g c = λ none.
    land_is_none c.args.notes.now.bytes.now c.args.description.now.bytes.now c.in-Ok.plat c.args.verdict
    c.in-Ok.ensures.plat
    (subst (λ township. DescribeLand STANDARD_LOTS township c.args.description.now.bytes.now)
    c.township.ensures
    c.in-Ok-describe.ensures.land)

pub returns-in-Err-describe-clause-none : goal.returns-in-Err-describe-clause-none
returns-in-Err-describe-clause-none g c =
    none_of_land c.explain-in-Err-describe.result c.args.notes.now.bytes.now c.args.description.now.bytes.now
    c.in-Err-describe.stop c.args.verdict
    (of_description c.args.notes.now.bytes.now c.args.description.now.bytes.now c.in-Ok.plat
    c.in-Err-describe.stop c.in-Ok.ensures.plat
    (subst
    (λ township.
    IfFound c.in-Err-describe.stop (IsNoDescription STANDARD_LOTS township c.args.description.now.bytes.now))
    c.township.ensures c.in-Err-describe.ensures.found))
    c.explain-in-Err-describe.ensures.none

pub returns-in-Err-clause-spot : goal.returns-in-Err-clause-spot
returns-in-Err-clause-spot g c =
    platted_tells_none c.explain.result c.args.notes.now.bytes.now c.in-Err.stop
    (IsExplainedWhereRefused c.args.description.now) c.in-Err.ensures.found c.explain.ensures.found

pub returns-in-Err-describe-clause-spot : goal.returns-in-Err-describe-clause-spot
returns-in-Err-describe-clause-spot g c = λ makes.
    tells_where _ c.explain-in-Err-describe.result c.of_file-origin.result c.args.description.now
    c.township.result c.in-Err-describe.stop c.of_file-origin.ensures.whole c.of_file-origin.ensures.file
    c.in-Err-describe.ensures.shown c.explain-in-Err-describe.ensures.found
    c.explain-in-Err-describe.ensures.spot

pub returns-in-Err-clause-shows : goal.returns-in-Err-clause-shows
returns-in-Err-clause-shows g c =
    shows_notes c.explain.result c.args.notes.now c.args.description.now c.in-Err.stop c.in-Err.ensures.found
    c.explain.ensures.found c.explain.ensures.shows

pub returns-in-Err-describe-clause-shows : goal.returns-in-Err-describe-clause-shows
returns-in-Err-describe-clause-shows g c =
    shows_text c.explain-in-Err-describe.result c.args.notes.now c.args.description.now
    (c.in-Ok.plat, c.in-Ok.ensures.plat)
    c.explain-in-Err-describe.ensures.shows
