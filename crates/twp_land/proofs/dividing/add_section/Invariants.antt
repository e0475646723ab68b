use Rattle.std.proofs.Common.{◌≡◌, ℕ, ◌+◌, ◌*◌, ◌≤◌, get_or, length}
use Rattle.twp_land.specs.steps.Dividing.{AreDivided}
use Rattle.twp_land.proofs.dividing.add_section.Given as goal

-- the positions so far have their bytes, and those of later sections stay
abbrev pub invariant-loop-position : goal.invariant-loop-position
invariant-loop-position l = record {
  long : length l.positions ≡ 576;
  so_far : AreDivided l.marks.sections (l.index * 16 + l.position) l.used l.positions l.divided;
  others : (i d : ℕ) → (l.index + 1) * 16 ≤ i → get_or l.positions i d ≡ get_or l.fn.positions i d;
}
