use Rattle.twp_land.specs.steps.LotBytes.{IsLowest}
use Rattle.twp_land.proofs.lot_map.bytes.lowest_in.Given as goal

-- the lowest of the marks so far
abbrev pub invariant-loop-within : goal.invariant-loop-within
invariant-loop-within l = record {
  lowest : IsLowest l.divided l.first l.within l.after l.lowest;
}
