-- The other place that the explanation of a repeated line names: the record that returned the line before.
use Rattle.std.specs.Prelude.{◌≡◌, ◌-◌, ℕ, List, length, Option, None, IfSome}
use Rattle.twp_notes.specs.FieldNotes.{NamesLine}
use Rattle.twp_notes.specs.Records.{Fields}
use Rattle.twp_notes.specs.declared.fault.NotesFault.{NotesFault}
use Rattle.twp_notes.specs.declared.fault.NotesFault.TheVariants as fault
use Rattle.twp_diagnose.specs.RecordFields.{fields_in, fields_span, IsFirstOfLine}
use Rattle.twp_diagnose.specs.declared.explanation.OtherPlace.{OtherPlace}
use Rattle.twp_diagnose.specs.declared.records.Record.{Record}
use Rattle.twp_sentences.specs.Blamed.{IsRecordOf}

-- the other place is the first record that names the line that these fields name
pub record IsFirstRecordOf (notes : List ℕ) (fields : Fields) (other : OtherPlace) : Type 0 where
  pub line : ℕ
  pub names : NamesLine fields line
  pub found : Record
  pub is_first : IsFirstOfLine notes line found
  pub number_is : other.number ≡ found.number
  pub span_is : other.span ≡ fields_span found 0 (length (fields_in found) - 1)

-- the other place is the first record that names the line of the record of this number, which has the fault
pub record IsBeforeRecord (notes : List ℕ) (is : NotesFault) (number : ℕ) (other : OtherPlace) : Type 0 where
  pub again : Record
  pub again_is : IsRecordOf notes is number again
  pub first : IsFirstRecordOf notes (fields_in again) other

-- the other place of a fault of field notes: if a record returns its line again, it is that of the first
-- record; no other fault has one
abbrev pub IsOtherRecord : List ℕ → NotesFault → ℕ → Option OtherPlace → Type 0
IsOtherRecord notes (fault.Repeated at_) number other =
    IfSome other (IsBeforeRecord notes (fault.Repeated at_) number)
IsOtherRecord notes is number other = other ≡ None
