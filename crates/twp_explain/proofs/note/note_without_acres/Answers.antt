-- The place is the first one of the text.
use Rattle.std.proofs.lemmas.Option.{MatchOption-at_some}
use Rattle.twp_read.specs.Doubts.{AreDoubts, HasNoDoubtfulPlace}
use Rattle.twp_explain.proofs.NoteFacts.{note_first}
use Rattle.twp_explain.proofs.note.note_without_acres.Goals as goal

pub returns-clause-note : goal.returns-clause-note
returns-clause-note c =
    let text = c.args.description.now.bytes.now in
    let are =
    MatchOption-at_some (HasNoDoubtfulPlace text) (AreDoubts text) c.in-Some.doubts c.in-Some.is
    c.in_ok-doubts.ensures in
    note_first text c.in-Some.doubts c.note_on.result are c.note_on.ensures.at
