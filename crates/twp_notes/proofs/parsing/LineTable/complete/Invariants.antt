use Rattle.std.proofs.Common.{◌≡◌, ℕ, ◌<◌, length, Some}
use Rattle.std.specs.Prelude.{slice_index_or}
use Rattle.twp_grid.specs.Lines.{LINE_COUNT}
use Rattle.twp_notes.specs.FieldNotes.{nothing_returned}
use Rattle.twp_notes.specs.steps.Tables.{entry_of}
use Rattle.twp_notes.proofs.parsing.LineTable.complete.Given as goal

-- the lines so far have these entries
abbrev pub invariant-loop-index : goal.invariant-loop-index
invariant-loop-index l = record {
  count : length l.lines ≡ LINE_COUNT;
  each : (line : ℕ) → line < l.index
      → entry_of l.self line ≡ Some (slice_index_or l.lines line nothing_returned);
}
