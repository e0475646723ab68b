-- A fault of the notes is shown there, and a fault of the list in the list.
use Rattle.twp_explain.specs.ShownFaults.{in_the_text}
use Rattle.twp_explain.proofs.MessageFacts.{shows_notes}
use Rattle.twp_explain.proofs.list.explain_list.Goals as goal

pub returns-in-Err-clause-shows : goal.returns-in-Err-clause-shows
returns-in-Err-clause-shows g c =
    shows_notes c.explain.result c.args.notes.now c.args.tracts.now c.in-Err.stop c.in-Err.ensures.found
    c.explain.ensures.found c.explain.ensures.shows

pub returns-clause-shows : goal.returns-clause-shows
returns-clause-shows g c = in_the_text (c.in-Ok.plat, c.in-Ok.ensures.plat) c.in_ok-explanation.ensures.shows
