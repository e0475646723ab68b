use Rattle.std.proofs.Common.{◌≡◌, ℕ, ◌<◌, get_or, length}
use Rattle.twp_plat.specs.LotTables.{RETURNED_MOST}
use Rattle.twp_plat.proofs.lots.StandardFigures.{numbers_by_code}
use Rattle.twp_plat.proofs.lots.returned.ReturnedLots.standard.Given as goal

-- the figures and numbers so far are copied
abbrev pub invariant-loop-index : goal.invariant-loop-index
invariant-loop-index l = record {
  long : (length l.figures ≡ RETURNED_MOST) × (length l.numbers ≡ RETURNED_MOST);
  figures : (k : ℕ) → k < l.index → get_or l.figures k 0 ≡ get_or l.returned k 0;
  numbers : (k : ℕ) → k < l.index → get_or l.numbers k 0 ≡ get_or numbers_by_code k 0;
}
