-- Two spaces, and lines.
use Rattle.std.proofs.Common.{◌∙◌, sym}
use Rattle.std.proofs.lemmas.Result.{on_ok_weaker}
use Rattle.twp_excerpt.specs.Shown.{is_shown_or_feed}
use Rattle.twp_excerpt.proofs.MessageFacts.{help_added}
use Rattle.twp_excerpt.proofs.ShownFacts.{adds_trans, lines_of_shown}
use Rattle.twp_excerpt.proofs.message.write_help.Goals as goal

pub returns-clause-help : goal.returns-clause-help
returns-clause-help c =
    on_ok_weaker c.write_wrapped.result
    (help_added c.args.help.now _ _ _ (sym c.is_empty.ensures ∙ c.if-is_empty.false)
    c.in_ok-push_printable.ensures.added.whole)
    c.write_wrapped.ensures.ended

pub returns-clause-safe : goal.returns-clause-safe
returns-clause-safe c =
    adds_trans is_shown_or_feed _ _ _ (lines_of_shown _ _ c.push_printable.ensures.safe)
    c.write_wrapped.ensures.safe
