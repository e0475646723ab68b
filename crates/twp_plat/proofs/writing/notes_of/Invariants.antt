use Rattle.std.proofs.Common.{◌≡◌, ℕ, ◌<◌, length, get_or}
use Rattle.twp_notes.specs.FieldNotes.{nothing_returned}
use Rattle.twp_plat.specs.PlatNotes.{returned_with}
use Rattle.twp_plat.proofs.writing.notes_of.Given as goal

-- the distances of the lines so far
abbrev pub invariant-loop-index : goal.invariant-loop-index
invariant-loop-index l = record {
  count : length l.lines ≡ 84;
  each : (line : ℕ) → line < l.index
      → get_or l.lines line nothing_returned ≡ returned_with (get_or l.quarters line 0);
}
