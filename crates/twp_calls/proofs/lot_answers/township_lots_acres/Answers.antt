-- The acres are those of the land described, or there are none, or memory ran out.
use Rattle.twp_calls.specs.Calls.{accepted}
use Rattle.twp_calls.specs.LotCalls.{AreAcresAnswered, by_lots}
use Rattle.twp_answers.specs.LotLands.{HasLotAreaOf}
use Rattle.twp_calls.proofs.LotCallFacts.{stops_by_lots}
use Rattle.twp_calls.proofs.lot_answers.township_lots_acres.Goals as goal

pub returns-in-Ok : goal.returns-in-Ok
returns-in-Ok c =
    by_lots c.in-Some.township c.in-Some.ensures
    (accepted (record {
      area = c.in-Ok.area;
      is = c.in-Ok.ensures;
      hundredths = c.hundredths.result;
      rounded = c.hundredths.ensures;
      answer_is = c.of_acres.ensures;
    }))

pub returns-in-Err : goal.returns-in-Err
returns-in-Err c =
    by_lots c.in-Some.township c.in-Some.ensures
    (stops_by_lots
    (AreAcresAnswered (HasLotAreaOf c.in-Some.township c.args.lots.now.lots c.args.description.now))
    c.in-Some.township c.args.lots.now.lots c.args.description.now c.in-Err.stop _ c.of_stop.ensures
    c.in-Err.ensures)
