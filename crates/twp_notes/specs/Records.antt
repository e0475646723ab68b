-- The records of a text of comma-separated fields, as `csv` reads them: no header row is separated,
-- a record can have any number of fields, and nothing is trimmed.
use Rattle.std.specs.Prelude.{◌≡◌, ℕ, ◌+◌, ◌-◌, true, false, List, [], length, Some, slice_index_or}
use Rattle.std.specs.Prelude.{unwrap_or}
use Rattle.std.specs.Borrow.{Bor}
use Rattle.csv.specs.Machine.{ends_at_end}
use Rattle.csv.specs.Reading.{records, records_from, strip_bom, default_config, source_of, Ready}
use Rattle.csv.specs.Reading.{reader_config, reader_state, reader_trim, is_flexible}
use Rattle.csv.specs.declared.reader.Trim.TheVariants as trim
use Rattle.twp_notes.specs.declared.reading.Records.{Records}

-- a record is the list of its fields
abbrev pub Fields : Type 0
Fields = List (List ℕ)

-- all the records of the bytes, one after another
abbrev pub records_of : List ℕ → List Fields
records_of bytes = records default_config (strip_bom bytes)

-- the field at an index, empty if the record is shorter
abbrev pub field : Fields → ℕ → List ℕ
field fields i = slice_index_or fields i []

-- the record at an index, without fields if there are fewer records
abbrev pub record_at : List Fields → ℕ → Fields
record_at records i = slice_index_or records i []

-- the records are numbered from 1
abbrev pub record_numbered : List Fields → ℕ → Fields
record_numbered records number = record_at records (number - 1)

-- the bytes that a reader still has to read
abbrev pub bytes_ahead : Records → List ℕ
bytes_ahead r = unwrap_or (source_of (λ (s : Bor (List ℕ)). Some s.now) r.reader) []

-- the records that a reader still has to read
abbrev pub records_left : Records → List Fields
records_left r =
    records_from default_config (length (bytes_ahead r) + 1) (reader_state r.reader) (bytes_ahead r)

-- the reader is between two records
pub record IsBetweenRecords (r : Records) : Type 0 where
  pub plain : reader_trim r.reader ≡ trim.None
  pub ready : Ready r.reader
  pub config : reader_config r.reader ≡ default_config
  pub flexible : is_flexible r.reader ≡ true
  pub known : source_of (λ (s : Bor (List ℕ)). Some s.now) r.reader ≡ Some (bytes_ahead r)
  pub between : ends_at_end (reader_state r.reader) ≡ false
