-- The place is that of no lacking lot; or the explanation is of the refusal of the lot there; or memory ran
-- out.
use Rattle.std.proofs.Common.{[]}
use Rattle.twp_calls.specs.Calls.{accepted, no_memory}
use Rattle.twp_calls.specs.LotCalls.{by_lots}
use Rattle.twp_calls.specs.LotExplanations.{IsOfNoLacking, IsRefusalAt}
use Rattle.twp_calls.proofs.ExplanationPartFacts.{shown_in_parts}
use Rattle.twp_calls.proofs.LotExplanationFacts.{explains_refusal}
use Rattle.twp_calls.proofs.explaining_lots.township_explain_lacking_parts.Goals as goal

pub returns-in_default-lacking_at-clause-answer : goal.returns-in_default-lacking_at-clause-answer
returns-in_default-lacking_at-clause-answer c =
    by_lots c.in-Some._township c.in-Some.ensures
    (accepted (record {
      none = c.in_default-lacking_at.ensures;
      answer_is = c.bare-in_default-lacking_at.ensures;
    }))

pub returns-in-Ok-clause-answer : goal.returns-in-Ok-clause-answer
returns-in-Ok-clause-answer c =
    by_lots c.in-Some._township c.in-Some.ensures
    (explains_refusal (IsRefusalAt c.args.lots.now.lots c.args.at)
    (IsOfNoLacking c.args.lots.now.lots c.args.at)
    c.of_refusal-refused.result c.in-Ok.explained c.args.text.now c.put_explained.new.text
    c.put_explained.new.explanation c.put_explained.result
    (record {
      section = c.in-Some-lacking_at.lot.section;
      lot = c.in-Some-lacking_at.lot.number;
      is = c.in-Some-lacking_at.ensures;
      refusal_is = c.in-Ok.ensures.refusal;
    })
    c.of_refusal-refused.ensures c.put_explained.ensures.explained)

pub returns-in-Ok-clause-shows : goal.returns-in-Ok-clause-shows
returns-in-Ok-clause-shows c =
    shown_in_parts [] c.args.name.now c.args.text.now c.put_explained.new.text
    c.put_explained.new.explanation c.of_refusal-refused.result c.put_explained.result c.given.result
    c.in-Ok.explained
    (record {
      name_is = c.given.ensures.name;
      bytes_are = c.given.ensures.bytes;
      first_line_is = c.given.ensures.first_line;
    })
    c.in-Ok.ensures.shows c.put_explained.ensures.explained

pub returns-in-Err-clause-answer : goal.returns-in-Err-clause-answer
returns-in-Err-clause-answer c =
    by_lots c.in-Some._township c.in-Some.ensures (no_memory c.bare-in-Err.ensures)
