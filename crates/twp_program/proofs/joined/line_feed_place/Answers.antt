use Rattle.std.proofs.Common.{◌∙◌}
use Rattle.twp_program.proofs.JoinedFacts.{first_byte}
use Rattle.twp_program.proofs.joined.line_feed_place.Goals as goal

pub returns-clause-place : goal.returns-clause-place
returns-clause-place c = c.unwrap_or.ensures ∙ first_byte c.args.bytes.now 10 c.memchr.result c.memchr.ensures
