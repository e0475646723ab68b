use Rattle.std.proofs.Common.{◌*◌}
use Rattle.twp_land.specs.steps.LotBytes.{IsLowestBelow}
use Rattle.twp_land.proofs.lot_map.LotMap.lowest.Given as goal

-- the lowest mark of the positions so far
abbrev pub invariant-loop-index : goal.invariant-loop-index
invariant-loop-index l = record {
  lowest : IsLowestBelow l.self.positions l.self.divided l.section l.after (l.index * 64) l.lowest;
}
