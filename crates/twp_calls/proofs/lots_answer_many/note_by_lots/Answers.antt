-- There was no room to write in.
use Rattle.twp_calls.proofs.lots_answer_many.note_by_lots.Goals as goal

pub returns-clause-noted : goal.returns-clause-noted
returns-clause-noted c = λ accepted. record {
  rest = c.township_lots_explain_description.new.text;
  explains = c.township_lots_explain_description.ensures.answer;
}
