use Rattle.twp_calls.proofs.SuggestionFacts.{next_change, no_changes}
use Rattle.std.proofs.Common.{rules}
use Rattle.twp_calls.proofs.suggesting.add_changes.Goals as goal

pub loop-change-init : goal.loop-change-init
loop-change-init c = no_changes c.args.text.now c.args.changes.now.items c.args.bytes.now.items

pub loop-change-preserved : goal.loop-change-preserved
loop-change-preserved c =
    next_change c.args.text.now c.args.list.now c.loop-change.change-index c.len-written.result _
    c.of_change.result
    c.args.changes.now.items c.loop-change.changes.items c.push.new.self.items c.args.bytes.now.items
    c.loop-change.bytes.items c.extend_from_slice.new.self.items c.of_change.ensures (search rules)
    c.loop-change-test.true c.loop-change.invariant (search rules) (search rules)
