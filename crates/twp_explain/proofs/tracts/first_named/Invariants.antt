use Rattle.std.proofs.Common.{◌≡◌, ◌≢◌, ◌≤◌, ◌<◌, ◌-◌, ℕ, drop}
use Rattle.twp_notes.specs.Records.{record_numbered, records_left, records_of, IsBetweenRecords}
use Rattle.twp_answers.specs.Tracts.{name_in}
use Rattle.twp_diagnose.specs.RecordFields.{fields_listed}
use Rattle.twp_explain.specs.BlamedTracts.{FIRST_TRACT}
use Rattle.twp_explain.proofs.tracts.first_named.Given as goal

-- no tract so far has the name, and the other records are left
abbrev pub invariant-records : goal.invariant-records
invariant-records l = record {
  reading : IsBetweenRecords l.records;
  rest : records_left l.records ≡ drop (l.number - 1) (records_of l.listed.file.bytes.now);
  others : (other : ℕ) → FIRST_TRACT ≤ other → other < l.number
      → name_in (record_numbered (records_of l.listed.file.bytes.now) other)
      ≢ name_in (fields_listed l.listed);
}
