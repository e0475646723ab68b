use Rattle.std.proofs.Common.{take}
use Rattle.twp_calls.specs.Suggestions.{rooms}
use Rattle.twp_calls.specs.steps.Suggesting.{AreDataOf}
use Rattle.twp_calls.proofs.suggesting.data_of.Given as goal

-- the data of the readings so far
abbrev pub invariant-loop-reading : goal.invariant-loop-reading
invariant-loop-reading l =
    AreDataOf l.text (take l.reading-index l.readings) (rooms l.made.items l.changes.items l.bytes.items)
