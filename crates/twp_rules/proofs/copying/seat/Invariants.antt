use Rattle.std.proofs.Common.{◌≡◌, drop, map}
use Rattle.twp_rules.specs.Changes.{seen}
use Rattle.twp_rules.specs.Copying.{seat}
use Rattle.twp_rules.proofs.copying.seat.Given as goal

-- the rest decides
abbrev pub invariant-loop-change : goal.invariant-loop-change
invariant-loop-change l =
    seat 0 0 (map seen l.changes) l.spot ≡ seat l.at l.place (map seen (drop l.change-index l.changes)) l.spot
