-- There is no such land on the table's plat; or the acres are those of the land, or the table lacks a lot.
use Rattle.std.proofs.Common.{inl, inr}
use Rattle.twp_calls.proofs.LotCallFacts.{lacks_lot}
use Rattle.twp_calls.proofs.LotLandFacts.{no_table_land, table_land}
use Rattle.twp_calls.proofs.lot_lands.township_lots_land_acres.Goals as goal

pub returns-in-Ok-area_by_lots : goal.returns-in-Ok-area_by_lots
returns-in-Ok-area_by_lots c =
    table_land _ c.args.lots.now c.args.land.now _ _ _ c.in-Ok.ensures.found
    (inl (record {
      area = c.in-Ok-area_by_lots.area;
      is = record {
        figures = c.in-Ok-area_by_lots.ensures.figures;
        area_is = c.in-Ok-area_by_lots.ensures.area;
      };
      hundredths = c.hundredths.result;
      rounded = c.hundredths.ensures;
      answer_is = c.of_acres.ensures;
    }))

pub returns-in-Err-area_by_lots : goal.returns-in-Err-area_by_lots
returns-in-Err-area_by_lots c =
    table_land _ c.args.lots.now c.args.land.now _ _ _ c.in-Ok.ensures.found
    (inr (lacks_lot c.args.lots.now.lots _ c.in-Err-area_by_lots.lot.section c.in-Err-area_by_lots.lot.number
    c.refusal.result _ c.in-Err-area_by_lots.ensures.lacking c.refusal.ensures c.of_refusal.ensures))

pub returns-in-Err : goal.returns-in-Err
returns-in-Err c = no_table_land _ c.args.lots.now c.args.land.now _ c.in-Err.ensures.none
