-- What is shown with parts is shown.
use Rattle.twp_calls.proofs.ExplanationPartFacts.{shown_text}
use Rattle.twp_calls.proofs.explaining_lots.township_explain_lots.Goals as goal

pub returns-clause-shows : goal.returns-clause-shows
returns-clause-shows c = λ refused.
    shown_text c.args.table.now c.args.name.now c.args.text.now c.township_explain_lots_parts.new.text
    c.township_explain_lots_parts.new.explanation c.township_explain_lots_parts.result
    (c.township_explain_lots_parts.ensures.shows refused)
