use Rattle.std.proofs.Common.{sym}
use Rattle.twp_read.proofs.NumberFacts.{comma_leads}
use Rattle.twp_read.proofs.usual.list.after_list_comma.Goals as goal

pub returns-in-Some : goal.returns-in-Some
returns-in-Some c items =
    comma_leads c.args.text.now c.args.comma.at c.args.next c.args.comma.state c.in-Some.state items
    c.requires.spelled
    c.requires.within c.requires.next (sym c.in-Some.ensures)
