use Rattle.std.proofs.Common.{◌≡◌, ℕ, ◌+◌, ◌<◌, ◌≤◌, get_or, length}
use Rattle.twp_grid.specs.Spans.{total}
use Rattle.twp_plat.specs.LotTables.{RETURNED_MOST}
use Rattle.twp_plat.proofs.lots.Among.{AreAppended}
use Rattle.twp_plat.proofs.lots.EnteredSections.{entered_one}
use Rattle.twp_plat.proofs.lots.returned.append.Given as goal

-- what is entered for the lots so far has been appended
abbrev pub invariant-loop-index : goal.invariant-loop-index
invariant-loop-index l = record {
  long : (length l.figures ≡ RETURNED_MOST) × (length l.numbers ≡ RETURNED_MOST);
  from : l.used ≤ l.end;
  most : l.end ≤ RETURNED_MOST;
  count : l.end ≡ l.used + total l.index (entered_one l.entered);
  before : (k d : ℕ) → k < l.used → get_or l.figures k d ≡ get_or l.fn.figures k d;
  numbers_before : (k d : ℕ) → k < l.used → get_or l.numbers k d ≡ get_or l.fn.numbers k d;
  appended : AreAppended l.figures l.numbers l.entered l.used l.end l.index;
}
