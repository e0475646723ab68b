use Rattle.std.proofs.Common.{◌≡◌, ◌++◌, drop, map}
use Rattle.twp_rules.specs.Changes.{seen}
use Rattle.twp_rules.specs.Origins.{marks_of}
use Rattle.twp_rules.specs.steps.Followed.{IsFollowed}
use Rattle.twp_rules.proofs.origins.marks_of.Given as goal

-- what is named so far, and by the rest, is all; and the changed text was followed
abbrev pub invariant-loop-item : goal.invariant-loop-item
invariant-loop-item l =
    (marks_of (map seen l.changes) l.base l.items
    ≡ l.marks.items ++ marks_of (map seen l.changes) l.base (drop l.item-index l.items))
    × IsFollowed l.changes l.cursor
