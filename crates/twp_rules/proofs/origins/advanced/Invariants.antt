use Rattle.std.proofs.Common.{◌≤◌}
use Rattle.twp_rules.specs.steps.Followed.{IsFollowed}
use Rattle.twp_rules.proofs.origins.advanced.Given as goal

-- the changed text was followed, and not beyond the offset
abbrev pub invariant-loop : goal.invariant-loop
invariant-loop l = IsFollowed l.changes l.cursor × (l.cursor.offset ≤ l.offset)
