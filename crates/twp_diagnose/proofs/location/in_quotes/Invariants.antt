use Rattle.std.proofs.Common.{length, ◌-◌, ◌≡◌, ◌+◌, drop}
use Rattle.twp_diagnose.specs.Origins.{place_in_quotes}
use Rattle.twp_diagnose.proofs.location.in_quotes.Given as goal

-- the offset that is left, from the place so far on, is the one that was asked for
abbrev pub invariant-loop-index : goal.invariant-loop-index
invariant-loop-index l =
    l.index + place_in_quotes (drop l.index l.file) l.left
    ≡ l.start + place_in_quotes (drop l.start l.file) l.at

abbrev pub decreases-loop-index : goal.decreases-loop-index
decreases-loop-index l = length l.file - l.index
