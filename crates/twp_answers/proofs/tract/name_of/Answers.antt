-- Printable bytes are text.
use Rattle.twp_answers.proofs.TractFacts.{printed_is_text}
use Rattle.twp_answers.proofs.tract.name_of.Goals as goal

pub unreachable-requires : goal.unreachable-requires
unreachable-requires c =
    c.in-Err.ensures.cases.0
    (printed_is_text c.args.bytes.now (c.are_printed.ensures.0 c.if-not-are_printed.false))
