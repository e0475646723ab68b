-- The first fault of the text, or of the items, is shown.
use Rattle.twp_grid.specs.Lands.{lotting}
use Rattle.twp_explain.proofs.FindingFacts.{items_show, text_shows}
use Rattle.twp_explain.proofs.explaining.describe.Goals as goal

pub returns-clause-shown : goal.returns-clause-shown
returns-clause-shown g c =
    items_show (lotting (g.P.Lotting.layout c.args.lots.now)) c.stop_of_places.result c.args.origin.now
    c.args.township c.args.bytes.now
    c.in-Ok.description c.in-Err-resolve.fault c.in-Ok.ensures.read c.in-Err-resolve.ensures.refused
    c.stop_of_places.ensures.refusal c.stop_of_places.ensures.shown c.stop_of_places.ensures.ends
    c.stop_of_places.ensures.other

pub returns-in-Err-clause-shown : goal.returns-in-Err-clause-shown
returns-in-Err-clause-shown g c =
    text_shows (lotting (g.P.Lotting.layout c.args.lots.now)) c.stop_of_text.result c.args.origin.now
    c.args.township c.args.bytes.now c.in-Err.fault
    c.in-Err.ensures.refused c.stop_of_text.ensures.refusal c.stop_of_text.ensures.shown
    c.stop_of_text.ensures.ends c.stop_of_text.ensures.other
