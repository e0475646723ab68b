use Rattle.std.proofs.Common.{take}
use Rattle.twp_calls.specs.steps.Suggesting.{AreChangesAdded}
use Rattle.twp_calls.proofs.suggesting.add_changes.Given as goal

-- the data of the changes so far were added
abbrev pub invariant-loop-change : goal.invariant-loop-change
invariant-loop-change l =
    AreChangesAdded l.text (take l.change-index l.list) l.fn.changes.items l.changes.items l.fn.bytes.items
    l.bytes.items
