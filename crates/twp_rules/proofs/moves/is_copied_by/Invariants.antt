use Rattle.std.proofs.Common.{◌≡◌, drop, map}
use Rattle.twp_rules.specs.Changes.{seen}
use Rattle.twp_rules.specs.Moves.{is_copied_by}
use Rattle.twp_rules.proofs.moves.is_copied_by.Given as goal

-- the rest decides
abbrev pub invariant-loop-change : goal.invariant-loop-change
invariant-loop-change l =
    is_copied_by (map seen l.changes) l.at ≡ is_copied_by (map seen (drop l.change-index l.changes)) l.at
