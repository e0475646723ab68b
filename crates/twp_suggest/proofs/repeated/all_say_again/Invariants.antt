use Rattle.std.proofs.Common.{[], drop, map}
use Rattle.twp_grid.specs.Lands.{lotting}
use Rattle.twp_rules.specs.Changes.{AreChangesFrom, seen}
use Rattle.twp_suggest.specs.Repeats.{AreRepeated}
use Rattle.twp_suggest.proofs.repeated.all_say_again.Given as goal

-- if the changes that are left say again what was made before them, all do
abbrev pub invariant-loop-change : goal.invariant-loop-change
invariant-loop-change g l =
    AreChangesFrom l.at l.text (map seen (drop l.change-index l.changes))
    × (AreRepeated (lotting (g.P.Lotting.layout l.lots)) l.text l.made.items l.at
    (map seen (drop l.change-index l.changes))
    → AreRepeated (lotting (g.P.Lotting.layout l.lots)) l.text [] 0 (map seen l.changes))
