-- Where the fields of a record are in its file, and what they say.
use Rattle.std.specs.Prelude.{◌≡◌, ◌≤◌, ℕ, zero, suc, ◌+◌, ◌==◌, min, Bool, true, false, if◌then◌else◌}
use Rattle.std.specs.Prelude.{List, [], ◌∷◌, ◌++◌, ◌<◌, length, take, drop, ◌-◌}
use Rattle.std.specs.List.{All}
use Rattle.csv.specs.Machine.{step}
use Rattle.csv.specs.Reading.{default_config}
use Rattle.csv.specs.Records.{fields_of}
use Rattle.csv.specs.declared.parser.Action.{Action}
use Rattle.csv.specs.declared.parser.Action.TheVariants as action
use Rattle.csv.specs.declared.parser.State.{State}
use Rattle.csv.specs.declared.parser.State.TheVariants as state
use Rattle.twp_excerpt.specs.declared.spot.Span.{Span}
use Rattle.twp_grammar.specs.Tokens.{begins_with}
use Rattle.twp_notes.specs.FieldNotes.{NamesLine}
use Rattle.twp_notes.specs.Records.{Fields, records_of, record_numbered}
use Rattle.twp_diagnose.specs.Marks.{span}
use Rattle.twp_diagnose.specs.declared.location.Given.{Given}
use Rattle.twp_diagnose.specs.declared.listed.Listed.{Listed}
use Rattle.twp_diagnose.specs.declared.records.Record.{Record}

-- what the fields of a record say
abbrev pub fields_in : Record → Fields
fields_in record_ = fields_of record_.row

-- the record is the one of this number, from 1, in the bytes of a file
pub record IsRecordAt (file : List ℕ) (number : ℕ) (found : Record) : Type 0 where
  pub file_is : found.bytes.now ≡ file
  pub number_is : found.number ≡ number
  pub within : number ≤ length (records_of file)
  pub fields_are : fields_in found ≡ record_numbered (records_of file) number

-- none of these records names the line
abbrev pub NoneNames : ℕ → List Fields → Type 0
NoneNames line rows = All (λ (fields : Fields). ¬ NamesLine fields line) rows

-- the record is the first one of a file that names a line
pub record IsFirstOfLine (file : List ℕ) (line : ℕ) (found : Record) : Type 0 where
  pub file_is : found.bytes.now ≡ file
  pub before : List Fields
  pub after : List Fields
  pub split : records_of file ≡ before ++ fields_in found ∷ after
  pub names : NamesLine (fields_in found) line
  pub none_before : NoneNames line before
  pub number_is : length before < 4294967295 → found.number ≡ length before + 1

-- the field ends with this byte, or the record does
abbrev pub ends_field : Action → Bool
ends_field action.EndField = true
ends_field action.EndRecord = true
ends_field action.Skip = false
ends_field action.Copy = false

-- how many of some bytes are of one field, by the grammar of the records: those before the byte that ends it
unfoldable pub field_size : State → List ℕ → ℕ
field_size from [] = 0
field_size from (byte ∷ rest) =
    if ends_field (step default_config from byte).1 then 0
    else 1 + field_size (step default_config from byte).0 rest

-- where the field ends that begins at an offset of a file
abbrev pub field_end : List ℕ → ℕ → ℕ
field_end file start = min (start + field_size state.StartField (drop start file)) (length file)

-- the byte is a comma
abbrev pub is_comma : ℕ → Bool
is_comma byte = byte == 44

-- The field at an index, from 0, of the record that begins at an offset of a file: its bytes, with its
-- quotation marks. If the record has no such field, no bytes at its end.
unfoldable pub field_span : List ℕ → ℕ → ℕ → Span
field_span file start zero = span start (field_end file start)
field_span file start (suc place) =
    if begins_with is_comma (drop (field_end file start) file)
    then field_span file (field_end file start + 1) place
    else span (field_end file start) (field_end file start)

-- the bytes from one field of a record to another
abbrev pub fields_span : Record → ℕ → ℕ → Span
fields_span record_ first last =
    span (field_span record_.bytes.now record_.start first).start
    (field_span record_.bytes.now record_.start last).end

-- the record is the one of this number in the file of a list
pub record IsListedAt (file : Given) (number : ℕ) (listed : Listed) : Type 0 where
  pub file_is : listed.file ≡ file
  pub record_is : IsRecordAt file.bytes.now number listed.found

-- what the fields of a listed record say
abbrev pub fields_listed : Listed → Fields
fields_listed listed = fields_in listed.found

-- its number, and where it begins
abbrev pub number_listed : Listed → ℕ
number_listed listed = listed.found.number

abbrev pub start_listed : Listed → ℕ
start_listed listed = listed.found.start

-- the bytes from one field of a listed record to another, and those of one field, with quotation marks
abbrev pub span_listed : Listed → ℕ → ℕ → Span
span_listed listed first last = fields_span listed.found first last

abbrev pub listed_span : Listed → ℕ → Span
listed_span listed place = span_listed listed place place

-- these are the bytes of a file in a span
pub record AreBytesOf (file : List ℕ) (span_ : Span) (bytes : List ℕ) : Type 0 where
  pub are : bytes ≡ take (span_.end - span_.start) (drop span_.start file)
