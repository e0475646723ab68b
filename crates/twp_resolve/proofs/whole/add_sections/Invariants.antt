use Rattle.std.proofs.Common.{◌-◌, ◌≤◌}
use Rattle.twp_grid.specs.Lands.{STANDARD_LOTS}
use Rattle.twp_land.specs.Storage.{held_by_section, all_if}
use Rattle.twp_resolve.specs.steps.ResolvingSteps.{sections_from, AreAdded}
use Rattle.twp_resolve.proofs.whole.add_sections.Given as goal

-- the sections so far are added
abbrev pub invariant-loop-number : goal.invariant-loop-number
invariant-loop-number l = record {
  least : l.first ≤ l.number;
  added : AreAdded (sections_from STANDARD_LOTS l.first (l.number - 1))
      (held_by_section all_if l.initial.land.held) (held_by_section all_if l.land.held);
}
