-- There was no room to write in.
use Rattle.twp_calls.proofs.answer_many.note_on.Goals as goal

pub returns-clause-noted : goal.returns-clause-noted
returns-clause-noted c = λ account accepted. record {
  rest = c.township_explain_description.new.text;
  explains = c.township_explain_description.ensures.answer;
}
