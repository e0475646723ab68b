use Rattle.std.proofs.Common.{◌≡◌, ◌-◌, true}
use Rattle.twp_land.specs.steps.Marked.{PLACES, marked}
use Rattle.twp_land.proofs.MarkedLoops.{EachBelow}
use Rattle.twp_land.proofs.lot_map.LotMap.is_held.Given as goal

-- each marked place so far is in the set
abbrev pub invariant-loop-found : goal.invariant-loop-found
invariant-loop-found g l = record {
  each : EachBelow (marked l.self.positions l.self.divided l.section l.least l.most) l.from
      (λ c r. g.S.PlaceSet.places l.set l.section c r ≡ true);
}

abbrev pub decreases-loop-found : goal.decreases-loop-found
decreases-loop-found g l = PLACES - l.from
