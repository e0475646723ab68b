use Rattle.std.proofs.Common.{◌≤◌, ◌-◌}
use Rattle.twp_land.specs.steps.Marked.{PLACES}
use Rattle.twp_land.proofs.MarkedFacts.{ArePassed}
use Rattle.twp_land.proofs.lot_map.LotMap.search.Given as goal

-- the marked places that are left are not before this one
abbrev pub invariant-places : goal.invariant-places
invariant-places l = record {
  more : l.fn.from ≤ l.at;
  passed : ArePassed l.self.positions l.self.divided l.section l.least l.most l.from l.at;
}

abbrev pub decreases-places : goal.decreases-places
decreases-places l = PLACES - l.at
