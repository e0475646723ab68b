-- The readings on the table's plat, or no table.
use Rattle.twp_calls.specs.LotCalls.{by_lots}
use Rattle.twp_calls.proofs.suggesting_by_lots.township_lots_suggest.Goals as goal

pub returns-clause-answer : goal.returns-clause-answer
returns-clause-answer c = by_lots c.in-Some._township c.in-Some.ensures c.suggest_on.ensures.answer
