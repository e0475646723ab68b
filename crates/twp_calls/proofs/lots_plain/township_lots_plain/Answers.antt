-- The plain table was put there, or memory ran out.
use Rattle.twp_plat.specs.PlainTables.{IsPlainTable}
use Rattle.twp_calls.specs.Calls.{accepted, no_memory}
use Rattle.twp_calls.proofs.CallFacts.{text_put}
use Rattle.twp_calls.proofs.lots_plain.township_lots_plain.Goals as goal

pub returns-in-Ok-clause-answer : goal.returns-in-Ok-clause-answer
returns-in-Ok-clause-answer c =
    accepted (text_put (IsPlainTable c.args.table.now) _ _ _ _ _ _ c.bare.ensures c.deref.ensures.value
    c.in-Ok.ensures c.put.ensures.put)

pub returns-in-Err-clause-answer : goal.returns-in-Err-clause-answer
returns-in-Err-clause-answer c = no_memory c.bare-in-Err.ensures
