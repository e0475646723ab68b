use Rattle.std.proofs.Common.{◌≡◌, None, drop, map, true}
use Rattle.twp_rules.specs.Changes.{seen}
use Rattle.twp_rules.specs.Origins.{marks_of}
use Rattle.twp_rules.specs.steps.Alone.{is_alone}
use Rattle.twp_rules.specs.steps.Followed.{IsFollowed}
use Rattle.twp_rules.proofs.alone.is_alone.Given as goal

-- the changed text was followed; and the rest decides
abbrev pub invariant-loop-item : goal.invariant-loop-item
invariant-loop-item l =
    IsFollowed l.changes l.progress.cursor
    × (is_alone l.progress.alone (marks_of (map seen l.changes) l.base (drop l.item-index l.items)) ≡ true
    → is_alone None (marks_of (map seen l.changes) l.base l.items) ≡ true)
