use Rattle.std.proofs.Common.{◌≡◌, ◌+◌, ◌==◌, get_or}
use Rattle.twp_land.specs.LotMarks.{all_below}
use Rattle.twp_land.proofs.dividing.are_all.Given as goal

-- whether the places so far have the mark
abbrev pub invariant-loop-within : goal.invariant-loop-within
invariant-loop-within l = record {
  alike : l.alike
      ≡ all_below l.within (λ n. get_or l.marks (l.first + n) 0 == l.mark);
}
