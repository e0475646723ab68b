use Rattle.std.proofs.Common.{◌≡◌, length}
use Rattle.twp_plat.proofs.lots.EnteredSections.{AreSectionsEntered}
use Rattle.twp_plat.proofs.lots.returned.ReturnedLots.of.Given as goal

-- the figures of the sections so far are entered
abbrev pub invariant-loop-index : goal.invariant-loop-index
invariant-loop-index l = record {
  long : length l.first ≡ 37;
  so_far : AreSectionsEntered l.entered l.figures l.numbers l.first l.used l.index;
}
