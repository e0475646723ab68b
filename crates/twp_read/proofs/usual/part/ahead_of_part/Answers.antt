use Rattle.std.proofs.Common.{sym}
use Rattle.twp_read.proofs.Leading.{white_leads}
use Rattle.twp_read.proofs.WatchFacts.{part_no_step}
use Rattle.twp_read.proofs.usual.part.ahead_of_part.Goals as goal

pub returns : goal.returns
returns c =
    λ items.
    white_leads c.args.text.now c.args.from.at c.after_white.result c.args.from.state items
    c.after_white.ensures.value c.after_white.ensures.range
    (part_no_step c.args.from.state (sym c.if-not-begins_part.ensures))
