use Rattle.std.proofs.Common.{◌≡◌, ◌-◌, ◌≤◌, length}
use Rattle.twp_excerpt.specs.Spots.{is_white, end_of}
use Rattle.twp_excerpt.proofs.SpotFacts.{passed_before}
use Rattle.twp_excerpt.proofs.spot.end_of_text.Given as goal

-- only white space follows the index so far
abbrev pub invariant-loop-end : goal.invariant-loop-end
invariant-loop-end l = record {
  within : l.end ≤ length l.text;
  same : l.end - passed_before is_white l.text l.end ≡ end_of l.text;
}

abbrev pub decreases-loop-end : goal.decreases-loop-end
decreases-loop-end l = l.end
