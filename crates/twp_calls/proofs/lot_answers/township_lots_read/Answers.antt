-- The bytes are a lot table, or their first fault is answered.
use Rattle.std.proofs.Common.{Some, ap}
use Rattle.twp_calls.specs.LotCalls.{AreLotsRead}
use Rattle.twp_calls.proofs.LotCallFacts.{refused_lots}
use Rattle.twp_calls.proofs.lot_answers.township_lots_read.Goals as goal

pub returns-in-Err-clause-answer : goal.returns-in-Err-clause-answer
returns-in-Err-clause-answer c =
    refused_lots (AreLotsRead c.args.table.now c.args.lots.now) c.args.table.now c.in-Err.fault _
    c.of_lots_fault.ensures (c.in-Err.ensures.told c.args.table.now (ap (λ bytes. Some bytes) c.new.ensures))
