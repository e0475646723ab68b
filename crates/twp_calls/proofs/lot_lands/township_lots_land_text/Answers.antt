-- There is no such land on the table's plat; or the canonical text was put there, or memory ran out.
use Rattle.twp_plat.specs.LotTables.{lots_of}
use Rattle.twp_spell.specs.CanonicalText.{IsCanonicalText}
use Rattle.twp_calls.specs.Calls.{accepted, no_memory}
use Rattle.twp_calls.proofs.CallFacts.{text_put}
use Rattle.twp_calls.proofs.LotLandFacts.{no_table_land, table_land}
use Rattle.twp_calls.proofs.lot_lands.township_lots_land_text.Goals as goal

pub returns-in-Ok-spell-clause-answer : goal.returns-in-Ok-spell-clause-answer
returns-in-Ok-spell-clause-answer c =
    table_land _ c.args.lots.now c.args.land.now _ _ _ c.in-Ok.ensures.found
    (accepted (text_put (IsCanonicalText (lots_of c.args.lots.now.lots) c.in-Ok.land.township _) _ _ _ _ _ _
    c.bare.ensures c.deref.ensures.value c.in-Ok-spell.ensures.text c.put.ensures.put))

pub returns-in-Err-spell-clause-answer : goal.returns-in-Err-spell-clause-answer
returns-in-Err-spell-clause-answer c =
    table_land _ c.args.lots.now c.args.land.now _ _ _ c.in-Ok.ensures.found
    (no_memory c.bare-in-Err-spell.ensures)

pub returns-in-Err-clause-answer : goal.returns-in-Err-clause-answer
returns-in-Err-clause-answer c = no_table_land _ c.args.lots.now c.args.land.now _ c.in-Err.ensures.none
