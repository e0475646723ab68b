use Rattle.twp_rules.proofs.ChangeFacts.{start_within}
use Rattle.twp_rules.proofs.change.changed.Goals as goal

pub between-requires-clause-within : goal.between-requires-clause-within
between-requires-clause-within c =
    start_within c.args.text.now c.loop-change.at c.args.changes.now c.loop-change.change-index _
    c.loop-change-test.true c.loop-change.invariant.0
