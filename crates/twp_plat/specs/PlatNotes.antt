-- The field notes that are written for a plat.
use Rattle.std.specs.Prelude.{◌≡◌, ℕ, ◌+◌, List, length}
use Rattle.twp_grid.specs.Lines.{LINE_COUNT, IsLine}
use Rattle.twp_notes.specs.FieldNotes.{FieldNotes, returned_of}
use Rattle.twp_notes.specs.NotesTexts.{IsNotesText}
use Rattle.twp_notes.specs.declared.parsing.Returned.{Returned}
use Rattle.twp_plat.specs.Closing.{HALF_MILE, QUARTER_MILE}
use Rattle.twp_plat.specs.Plats.{SurveyPlat, closing_quarter_of}

-- of a line with this closing quarter: each half mile is 40 chains, but the last quarter mile is that quarter
abbrev pub returned_with : ℕ → Returned
returned_with closing_quarter = record {
  quarter = HALF_MILE;
  corner = HALF_MILE + QUARTER_MILE + closing_quarter;
}

-- the notes return these distances for each line of the plat
pub record AreNotesFor (plat : SurveyPlat) (notes : FieldNotes) : Type 0 where
  pub township_is : notes.township ≡ plat.township
  pub count_is : length notes.lines ≡ LINE_COUNT
  pub lines_are : (line : ℕ) → IsLine line
      → returned_of notes line ≡ returned_with (closing_quarter_of plat line)

-- the text is that of such notes
pub record IsTextFor (plat : SurveyPlat) (text : List ℕ) : Type 0 where
  pub notes : FieldNotes
  pub are : AreNotesFor plat notes
  pub written : IsNotesText notes text
