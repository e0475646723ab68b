use Rattle.std.proofs.Common.{◌≡◌, ℕ, ◌*◌, ◌≤◌, get_or, length}
use Rattle.twp_land.specs.steps.Dividing.{AreDivided}
use Rattle.twp_land.proofs.dividing.map_of_marks.Given as goal

-- the positions of the sections so far have their bytes, and the others have the byte 0
abbrev pub invariant-loop-index : goal.invariant-loop-index
invariant-loop-index l = record {
  long : length l.positions ≡ 576;
  so_far : AreDivided l.marks.sections (l.index * 16) l.used l.positions l.divided;
  none : (i : ℕ) → l.index * 16 ≤ i → get_or l.positions i 0 ≡ 0;
}
