-- The text that was added before the last line feed consists of lines.
use Rattle.twp_excerpt.proofs.ShownFacts.{ended}
use Rattle.twp_excerpt.proofs.wrapped.write_wrapped.Goals as goal

pub returns-clause-ended : goal.returns-clause-ended
returns-clause-ended c = ended _ _ _ c.loop-word.invariant c.in_ok-end_line.ensures.feed
