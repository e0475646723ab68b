use Rattle.std.proofs.Common.{◌≡◌, ◌++◌, drop, take}
use Rattle.twp_rules.specs.Lists.{before}
use Rattle.twp_rules.proofs.rows.front_of.Given as goal

-- no mark is before the rest
abbrev pub invariant-loop-index : goal.invariant-loop-index
invariant-loop-index l = before 95 l.row ≡ take l.index l.row ++ before 95 (drop l.index l.row)
