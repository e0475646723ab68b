use Rattle.std.proofs.Common.{◌≡◌, ℕ, ◌<◌, length, Ok}
use Rattle.std.specs.Prelude.{slice_index_or}
use Rattle.twp_notes.specs.FieldNotes.{returned_of}
use Rattle.twp_plat.specs.steps.LineFaults.{AnswersLine}
use Rattle.twp_plat.proofs.plat.Plat.protract.Given as goal

-- the lines so far are within the limits, with these closing quarters
abbrev pub invariant-loop-index : goal.invariant-loop-index
invariant-loop-index l = record {
  lines : length l.closing_quarters ≡ 84;
  each : (line : ℕ) → line < l.index
      → AnswersLine line (returned_of l.notes line) (Ok (slice_index_or l.closing_quarters line 0));
}
