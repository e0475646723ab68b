use Rattle.twp_grid.specs.Lands.{lotting}
use Rattle.twp_calls.specs.Suggestions.{suggested}
use Rattle.twp_calls.specs.steps.Suggesting.{shown}
use Rattle.twp_calls.proofs.SuggestionFacts.{said}
use Rattle.twp_calls.proofs.suggesting.suggest_on.Goals as goal

pub returns-clause-answer : goal.returns-clause-answer
returns-clause-answer g c =
    suggested (shown c.in-Ok.found) c.in-Ok.ensures.readings
    (said (lotting (g.P.Lotting.layout c.args.lots.now)) c.args.description.now c.in-Ok.found c.sizes.result
    c.sizes.ensures c.in-Ok.ensures)
    c.put_found.ensures.put
