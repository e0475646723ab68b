use Rattle.std.proofs.Common.{length, map}
use Rattle.twp_grid.specs.Lands.{lotting}
use Rattle.twp_rules.specs.declared.rule.Rule.TheVariants.{Word}
use Rattle.twp_rules.specs.Changes.{seen}
use Rattle.twp_suggest.specs.Closed.{IsWayGiven}
use Rattle.twp_suggest.specs.Ways.{AreTurned}
use Rattle.twp_suggest.proofs.closed.are_turned.Given as goal

-- if the ways at the rest are given, all are
abbrev pub invariant-loop-left : goal.invariant-loop-left
invariant-loop-left g l =
    AreTurned (IsWayGiven (lotting (g.P.Lotting.layout l.lots)) l.readings l.own l.made) l.text l.made
    l.before.rule l.before.at l.place
    (map seen l.left)
    → AreTurned (IsWayGiven (lotting (g.P.Lotting.layout l.lots)) l.readings l.own l.made) l.text l.made Word
    0 0 (map seen l.own.changes.items)

abbrev pub decreases-loop-left : goal.decreases-loop-left
decreases-loop-left g l = length l.left
