use Rattle.std.proofs.Common.{◌≡◌, drop, map}
use Rattle.twp_rules.specs.Changes.{seen}
use Rattle.twp_suggest.specs.Repeats.{are_in_place}
use Rattle.twp_suggest.proofs.repeated.are_in_place.Given as goal

-- the rest decides
abbrev pub invariant-loop-change : goal.invariant-loop-change
invariant-loop-change l =
    are_in_place (map seen l.changes) ≡ are_in_place (map seen (drop l.change-index l.changes))
