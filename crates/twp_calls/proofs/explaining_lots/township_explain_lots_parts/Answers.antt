-- The explanation is of the refusal of the table; or memory ran out.
use Rattle.std.proofs.Common.{subst}
use Rattle.twp_diagnose.specs.ShownMessages.{ShowsIn}
use Rattle.twp_explain.specs.LotRefusals.{AreNoLots}
use Rattle.twp_calls.specs.LotExplanations.{IsOfLotTable}
use Rattle.twp_calls.proofs.CallFacts.{held_by}
use Rattle.twp_calls.proofs.ExplanationPartFacts.{shown_in_parts}
use Rattle.twp_calls.proofs.LotExplanationFacts.{explains_refusal}
use Rattle.twp_calls.proofs.explaining_lots.township_explain_lots_parts.Goals as goal

pub returns-in-Ok-Some-clause-answer : goal.returns-in-Ok-Some-clause-answer
returns-in-Ok-Some-clause-answer c =
    explains_refusal (AreNoLots c.args.table.now) (IsOfLotTable c.args.table.now) c.of_refusal-refused.result
    c.in-Ok-Some.explained c.args.text.now c.put_explained.new.text c.put_explained.new.explanation
    c.put_explained.result
    (subst (λ bytes. AreNoLots bytes c.in-Ok-Some.explained.refusal) c.given.ensures.bytes
    (held_by (λ explained. AreNoLots c.given.result.bytes.now explained.refusal) c.in-Ok-Some.field-0
    c.in-Ok-Some.explained c.in-Ok-Some.field-0-is c.in-Ok-Some.ensures.refusal))
    c.of_refusal-refused.ensures c.put_explained.ensures.explained

pub returns-in-Ok-Some-clause-shows : goal.returns-in-Ok-Some-clause-shows
returns-in-Ok-Some-clause-shows c =
    shown_in_parts c.args.table.now c.args.name.now c.args.text.now c.put_explained.new.text
    c.put_explained.new.explanation c.of_refusal-refused.result c.put_explained.result c.given.result
    c.in-Ok-Some.explained
    (record {
      name_is = c.given.ensures.name;
      bytes_are = c.given.ensures.bytes;
      first_line_is = c.given.ensures.first_line;
    })
    (held_by (ShowsIn c.given.result) c.in-Ok-Some.field-0 c.in-Ok-Some.explained c.in-Ok-Some.field-0-is
    c.in-Ok-Some.ensures.shows)
    c.put_explained.ensures.explained
