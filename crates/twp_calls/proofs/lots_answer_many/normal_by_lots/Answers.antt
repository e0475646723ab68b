-- The canonical text was put there, or the description is refused on the table's plat, or memory ran out.
use Rattle.twp_plat.specs.LotTables.{lots_of}
use Rattle.twp_spell.specs.CanonicalText.{IsCanonicalText}
use Rattle.twp_calls.specs.Calls.{IsTextPut, accepted, no_memory}
use Rattle.twp_calls.specs.LotCalls.{by_lots}
use Rattle.twp_calls.specs.LotFullAnswers.{HasNormalByLots}
use Rattle.twp_calls.proofs.CallFacts.{text_put}
use Rattle.twp_calls.proofs.LotLandFacts.{stops_by_table}
use Rattle.twp_calls.proofs.lots_answer_many.normal_by_lots.Goals as goal

pub returns-in-Err : goal.returns-in-Err
returns-in-Err c =
    by_lots c.in-Some.township c.in-Some.ensures
    (stops_by_table
    (IsTextPut (HasNormalByLots c.in-Some.township c.args.lots.now.lots c.args.description.now)
    c.args.text.now c.args.text.now)
    c.in-Some.township c.args.description.now c.in-Err.stop _ c.of_stop.ensures c.in-Err.ensures)

pub returns-in-Ok-spell : goal.returns-in-Ok-spell
returns-in-Ok-spell c =
    by_lots c.in-Some.township c.in-Some.ensures
    (accepted (text_put (HasNormalByLots c.in-Some.township c.args.lots.now.lots c.args.description.now)
    _ _ _ _ _ _ c.bare-in-Ok-spell.ensures c.deref.ensures.value
    (record { places = _; described = c.in-Ok.ensures; text_is = c.in-Ok-spell.ensures.text })
    c.put.ensures.put))

pub returns-in-Err-spell : goal.returns-in-Err-spell
returns-in-Err-spell c =
    by_lots c.in-Some.township c.in-Some.ensures (no_memory c.bare-in-Err-spell.ensures)
