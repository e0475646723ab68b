use Rattle.std.proofs.Common.{◌≡◌, ◌-◌}
use Rattle.twp_plat.specs.LotTables.{figure_among, figure_of}
use Rattle.twp_plat.proofs.lots.returned.ReturnedLots.figure.Given as goal

-- the figure is that of a later number, if of one
abbrev pub invariant-loop-index : goal.invariant-loop-index
invariant-loop-index l = record {
  later : figure_among l.self.figures l.self.numbers l.lot l.index (l.end - l.index)
      ≡ figure_of l.self l.fn.section l.lot;
}

abbrev pub decreases-loop-index : goal.decreases-loop-index
decreases-loop-index l = l.end - l.index
