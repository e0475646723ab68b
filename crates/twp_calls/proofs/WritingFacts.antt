-- The notes that are written for a given plat make it; over plain values.
use Rattle.std.proofs.Common.{ℕ, List}
use Rattle.twp_notes.specs.FieldNotes.{FieldNotes}
use Rattle.twp_notes.specs.NotesTexts.{AreWithinLimits}
use Rattle.twp_notes.proofs.WrittenNotes.{written_is_read}
use Rattle.twp_plat.specs.Plats.{SurveyPlat, closing_quarter_of}
use Rattle.twp_plat.specs.PlatNotes.{AreNotesFor, IsTextFor}
use Rattle.twp_plat.proofs.PlatNoteFacts.{are_lengths, plat_of}
use Rattle.twp_answers.specs.Answers.{ArePlatted}
use Rattle.twp_calls.specs.GivenPlats.{IsGivenPlat}
use Rattle.twp_calls.specs.declared.plat.TownshipPlat.{TownshipPlat}

within_limits : (given : TownshipPlat) (notes : FieldNotes) (plat : SurveyPlat) → IsGivenPlat given plat
    → AreNotesFor plat notes → AreWithinLimits notes
within_limits given notes plat is are =
    let (number, range) = is.township.parts in
    let (is_number, is_range) = is.township.numbers in
    record {
      township = rw are.township_is (rw (number, range) (is_number, is_range));
      count = are.count_is;
      lengths = λ line is_line.
          rw (are.lines_are line is_line)
          (are_lengths (closing_quarter_of plat line) (is.is.within line is_line).most);
    }

pub platted : (given : TownshipPlat) (plat : SurveyPlat) (text : List ℕ) → IsGivenPlat given plat
    → IsTextFor plat text → ArePlatted text plat
platted given plat text is written = record {
  notes = written.notes;
  notes_are =
      written_is_read written.notes text (within_limits given written.notes plat is written.are)
      written.written;
  plat_is = plat_of written.notes plat is.is written.are;
}
