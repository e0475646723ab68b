use Rattle.std.proofs.Common.{sym}
use Rattle.twp_read.proofs.NumberFacts.{joined_leads, last_leads}
use Rattle.twp_read.proofs.items.Items.take_joined.Goals as goal

pub returns-in-Some-after_and : goal.returns-in-Some-after_and
returns-in-Some-after_and c =
    rw (c.state.ensures, c.in_ok-push.ensures, c.entry.ensures)
    (joined_leads c.args.text.now c.args.word.at c.args.word.state c.args.self.now c.in-Some-after_and.list
    c.in-Some.number.numeral
    c.in-Some.number.end (sym c.in-Some-after_and.ensures) c.in-Some.ensures.number)

pub returns : goal.returns
returns c =
    rw (c.last_state.ensures, c.in_ok-change.ensures)
    (last_leads c.args.text.now c.args.word.at c.args.word.state c.args.self.now c.in-Some-after_to.list
    c.in-Some.number.numeral
    c.in-Some.number.end (sym c.in-Some-after_to.ensures) c.in-Some.ensures.number)
