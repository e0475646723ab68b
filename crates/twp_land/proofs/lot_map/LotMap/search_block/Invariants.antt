use Rattle.std.proofs.Common.{◌≡◌, ◌-◌, true}
use Rattle.twp_grid.specs.Spans.{in_rectangle}
use Rattle.twp_land.specs.steps.Marked.{PLACES, marked}
use Rattle.twp_land.proofs.MarkedLoops.{EachBelow}
use Rattle.twp_land.proofs.lot_map.LotMap.search_block.Given as goal

-- no marked place so far is in the block
abbrev pub invariant-loop-found : goal.invariant-loop-found
invariant-loop-found l = record {
  none : EachBelow (marked l.self.positions l.self.divided l.section l.least l.most) l.from
      (λ c r. ¬ (in_rectangle l.block c r ≡ true));
}

abbrev pub decreases-loop-found : goal.decreases-loop-found
decreases-loop-found l = PLACES - l.from
