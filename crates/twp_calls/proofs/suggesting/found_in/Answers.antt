use Rattle.twp_grid.specs.Lands.{lotting}
use Rattle.twp_calls.specs.steps.Suggesting.{HasNoReadings, AreFoundReadings}
use Rattle.twp_calls.proofs.SuggestionFacts.{empty_when, if_ok, none_found}
use Rattle.std.proofs.Common.{rules}
use Rattle.twp_calls.proofs.suggesting.found_in.Goals as goal

pub returns-then-is_empty : goal.returns-then-is_empty
returns-then-is_empty g c =
    if_ok c.no_readings.result HasNoReadings
    (AreFoundReadings (lotting (g.P.Lotting.layout c.args.lots.now)) c.args.description.now)
    (λ found without.
    none_found (lotting (g.P.Lotting.layout c.args.lots.now)) c.args.description.now
    c.in_ok-readings.readings.items found c.in_ok-readings.ensures
    (empty_when c.in_ok-readings.readings.items (search rules)) without)
    c.no_readings.ensures
