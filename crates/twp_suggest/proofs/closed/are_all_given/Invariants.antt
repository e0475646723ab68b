use Rattle.std.proofs.Common.{length, map}
use Rattle.twp_grammar.specs.Tokens.{seen as token}
use Rattle.twp_grid.specs.Lands.{lotting}
use Rattle.twp_rules.specs.Changes.{seen}
use Rattle.twp_suggest.specs.Closed.{IsWayGiven}
use Rattle.twp_suggest.specs.Sharing.{AreShared}
use Rattle.twp_suggest.proofs.closed.are_all_given.Given as goal

-- if the ways at the rest are given, all are
abbrev pub invariant-loop-left : goal.invariant-loop-left
invariant-loop-left g l =
    AreShared (IsWayGiven (lotting (g.P.Lotting.layout l.lots)) l.readings l.own l.made)
    (map seen l.own.changes.items) (length l.made)
    (map token l.left)
    → AreShared (IsWayGiven (lotting (g.P.Lotting.layout l.lots)) l.readings l.own l.made)
    (map seen l.own.changes.items) (length l.made)
    (map token l.fn.tokens)

abbrev pub decreases-loop-left : goal.decreases-loop-left
decreases-loop-left g l = length l.left
