-- A quiet token says nothing new.
use Rattle.std.proofs.Common.{sym, ◌∙◌}
use Rattle.twp_grammar.specs.Tokens.{seen}
use Rattle.twp_read.proofs.QuietFacts.{quiet_is_same}
use Rattle.twp_read.proofs.watch.Watch.after.Goals as goal

pub returns-then-is_quiet : goal.returns-then-is_quiet
returns-then-is_quiet c =
    quiet_is_same c.args.self c.args.from.state c.args.from.at (seen c.args.token.now) c.args.after
    (c.is_usual.ensures c.if-is_usual.true) (sym c.is_quiet.ensures ∙ c.if-is_quiet.true)
