use Rattle.std.proofs.Common.{◌≡◌, drop, map}
use Rattle.twp_rules.specs.Changes.{seen}
use Rattle.twp_suggest.specs.Repeats.{has_repeated}
use Rattle.twp_suggest.proofs.repeated.has_repeated.Given as goal

-- the rest decides
abbrev pub invariant-loop-change : goal.invariant-loop-change
invariant-loop-change l =
    has_repeated (map seen l.changes) ≡ has_repeated (map seen (drop l.change-index l.changes))
