-- The land was read, or the description is refused on the table's plat, or memory ran out.
use Rattle.std.proofs.Common.{◌∙◌}
use Rattle.twp_calls.specs.Calls.{accepted}
use Rattle.twp_calls.specs.LotCalls.{by_lots}
use Rattle.twp_calls.specs.LotLandCalls.{IsLandReadBy}
use Rattle.twp_calls.proofs.LotLandFacts.{stops_by_table}
use Rattle.twp_calls.proofs.lot_lands.township_lots_land_read.Goals as goal

pub returns-in-Ok-clause-answer : goal.returns-in-Ok-clause-answer
returns-in-Ok-clause-answer c =
    by_lots c.in-Some.township c.in-Some.ensures
    (accepted (record {
      places = _;
      named = c.in-Ok.ensures;
      land = c.of.ensures.land;
      plat_is = c.of.ensures.plat ∙ c.plat.ensures;
      answer_is = c.bare-in-Ok.ensures;
    }))

pub returns-in-Err-clause-answer : goal.returns-in-Err-clause-answer
returns-in-Err-clause-answer c =
    by_lots c.in-Some.township c.in-Some.ensures
    (stops_by_table (IsLandReadBy c.args.lots.now c.in-Some.township c.args.description.now c.args.land.now)
    c.in-Some.township c.args.description.now c.in-Err.stop _ c.of_stop.ensures c.in-Err.ensures)
