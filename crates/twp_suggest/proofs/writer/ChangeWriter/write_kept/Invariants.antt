use Rattle.std.proofs.Common.{◌≤◌}
use Rattle.twp_suggest.proofs.writer.ChangeWriter.write_kept.Given as goal

-- the last phrase that stays is before the next one
abbrev pub invariant-loop-index : goal.invariant-loop-index
invariant-loop-index l = l.next ≤ l.index
