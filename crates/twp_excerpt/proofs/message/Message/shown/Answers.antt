-- The head, the sentence, the excerpt, and the help.
use Rattle.std.proofs.Common.{◌-◌, ap, ◌∙◌}
use Rattle.twp_excerpt.specs.Shown.{is_shown_or_feed}
use Rattle.twp_excerpt.proofs.MessageFacts.{in_parts}
use Rattle.twp_excerpt.proofs.ShownFacts.{adds_trans, lines_of_shown}
use Rattle.twp_excerpt.proofs.message.Message.shown.Goals as goal

pub returns : goal.returns
returns c =
    let excerpt = c.len-excerpt.ensures ∙ c.write_wrapped.new.out.bytes.ok.0 in
    let help = c.len-help.ensures ∙ c.write_extract.new.out.bytes.ok.0 in
    in_parts c.args.self.now _ _ _ _ _ _ c.new-text.ensures.bytes c.in_ok-write_head.ensures.head.whole
    c.in_ok-write_wrapped.ensures.ended c.in_ok-write_extract.ensures.extract.whole
    c.in_ok-continued.ensures.help
    (adds_trans is_shown_or_feed _ _ _
    (adds_trans is_shown_or_feed _ _ _
    (adds_trans is_shown_or_feed _ _ _ (lines_of_shown _ _ c.write_head.ensures.safe)
    c.write_wrapped.ensures.safe)
    c.write_extract.ensures.safe)
    c.write_help.ensures.safe)
    (c.len-sentence.ensures ∙ c.write_head.new.out.bytes.ok.0)
    (c.saturating_sub.ensures ∙ ap (λ n. n - 1) excerpt) excerpt help
    help (c.len-end.ensures ∙ c.write_help.new.out.bytes.ok.0)
