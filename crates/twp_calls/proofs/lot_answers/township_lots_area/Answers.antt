-- The parts are those of the area of the land described, or there are none, or memory ran out.
use Rattle.twp_calls.specs.Calls.{accepted}
use Rattle.twp_calls.specs.LotCalls.{IsAreaAnswered, by_lots}
use Rattle.twp_answers.specs.LotLands.{HasLotAreaOf}
use Rattle.twp_calls.proofs.LotCallFacts.{stops_by_lots}
use Rattle.twp_calls.proofs.lot_answers.township_lots_area.Goals as goal

pub returns-in-Ok-clause-answer : goal.returns-in-Ok-clause-answer
returns-in-Ok-clause-answer c =
    by_lots c.in-Some.township c.in-Some.ensures
    (accepted (record {
      area = c.in-Ok.exact;
      is = c.in-Ok.ensures;
      parts = c.of.ensures;
      answer_is = c.bare-in-Ok.ensures;
    }))

pub returns-in-Err-clause-answer : goal.returns-in-Err-clause-answer
returns-in-Err-clause-answer c =
    by_lots c.in-Some.township c.in-Some.ensures
    (stops_by_lots
    (IsAreaAnswered (HasLotAreaOf c.in-Some.township c.args.lots.now.lots c.args.description.now)
    c.args.area.now)
    c.in-Some.township c.args.lots.now.lots c.args.description.now c.in-Err.stop _ c.of_stop.ensures
    c.in-Err.ensures)
