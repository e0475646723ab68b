use Rattle.twp_read.proofs.Leading.{white_leads}
use Rattle.twp_read.proofs.usual.list.ahead.Goals as goal

pub returns-clause-leads : goal.returns-clause-leads
returns-clause-leads c items =
    white_leads c.args.text.now c.args.from.at c.after_white.result c.args.from.state items
    c.after_white.ensures.value
    c.after_white.ensures.range c.requires.state
