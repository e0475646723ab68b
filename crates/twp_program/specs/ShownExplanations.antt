-- The explanation of a refusal, the note on accepted input, and the texts that they show.
use Rattle.std.specs.Prelude.{◌≡◌, ◌==◌, ℕ, Bool, List, Option, Some, codes}
use Rattle.std.specs.List.{before_first, after_first}
use Rattle.twp_grid.specs.Townships.{line_feed}
use Rattle.twp_answers.specs.declared.stop.Verdict.{Verdict}
use Rattle.twp_answers.specs.declared.stop.Verdict.TheVariants.{Refused}
use Rattle.twp_diagnose.specs.declared.location.Given.{Given}
use Rattle.twp_diagnose.specs.ShownMessages.{ShowsIn}
use Rattle.twp_explain.specs.ShownFaults.{ShowsFault}
use Rattle.twp_explain.specs.ShownNotes.{ShowsNoteIn}
use Rattle.twp_diagnose.specs.declared.explanation.Explanation.{Explanation}
use Rattle.twp_explain.specs.declared.note.Note.{Note}

-- the refusal that is explained is that of the verdict
abbrev pub IsExplanationOf : Verdict → Explanation → Type 0
IsExplanationOf verdict explanation = verdict ≡ Refused explanation.refusal

-- a text under this name, with all the bytes that were kept of it, and the number of its first line
pub record IsGivenAs (name : List ℕ) (kept : Option (List ℕ)) (first_line : ℕ) (given : Given)
    : Type 0 where
  pub name_is : given.name.now ≡ name
  pub bytes_are : kept ≡ Some given.bytes.now
  pub first_line_is : given.first_line ≡ first_line

-- what an explanation is said to show, of such a text
pub record ShowsText (IsText : Given → Type 0) (explanation : Explanation) : Type 0 where
  pub text : Given
  pub is : IsText text
  pub shows : ShowsIn text explanation

-- the same of field notes and of a text on their plat: a fault of the notes is shown in the notes, and one of
-- the text in the text
pub record ShowsEither (AreNotes IsText : Given → Type 0) (explanation : Explanation) : Type 0 where
  pub notes : Given
  pub are : AreNotes notes
  pub text : Given
  pub is : IsText text
  pub shows : ShowsFault notes text explanation

-- a note shows a place of such a text
pub record ShowsNoted (IsText : Given → Type 0) (note : Note) : Type 0 where
  pub text : Given
  pub is : IsText text
  pub shows : ShowsNoteIn text note

-- a file of this name, whose lines are numbered from 1
abbrev pub IsFile : List ℕ → Option (List ℕ) → Given → Type 0
IsFile name kept given = IsGivenAs name kept 1 given

-- the byte ends the description of joined input
abbrev pub is_feed : ℕ → Bool
is_feed byte = byte == line_feed

-- joined input is standard input: its first line is the description, and the field notes begin on its second
pub record IsJoinedDescription (kept : Option (List ℕ)) (given : Given) : Type 0 where
  pub bytes : List ℕ
  pub kept_is : kept ≡ Some bytes
  pub is : IsGivenAs (codes "standard input") (Some (before_first is_feed bytes)) 1 given

pub record AreJoinedNotes (kept : Option (List ℕ)) (given : Given) : Type 0 where
  pub bytes : List ℕ
  pub kept_is : kept ≡ Some bytes
  pub are : IsGivenAs (codes "standard input") (Some (after_first is_feed bytes)) 2 given
