-- The distance to blame is shown in the record of the line, if there is one.
use Rattle.std.proofs.Common.{subst}
use Rattle.std.specs.Prelude.{MatchOption}
use Rattle.twp_notes.specs.Records.{records_of}
use Rattle.twp_diagnose.specs.RecordFields.{IsFirstOfLine, NoneNames}
use Rattle.twp_sentences.specs.BlamedDistances.{IsShownIn}
use Rattle.twp_sentences.proofs.BlamedFacts.{shown_distance, shown_no_line}
use Rattle.twp_sentences.proofs.field_notes.plat.find.Goals as goal

pub returns-clause-place : goal.returns-clause-place
returns-clause-place c =
    let notes = c.args.file.now.bytes.now in
    let found = c.in_ok-record.«record» in
    let named = rw c.in_ok-record.was at c.of_line.ensures in
    shown_distance notes c.args.fault found c.place_of.result
    (subst (λ line. MatchOption found (NoneNames line (records_of notes)) (IsFirstOfLine notes line))
    c.in-Some.ensures.1 named)
    (subst (λ place. IsShownIn found place c.place_of.result) c.field_of.ensures c.place_of.ensures)

pub returns-in_default-clause-place : goal.returns-in_default-clause-place
returns-in_default-clause-place c =
    shown_no_line c.args.file.now.bytes.now c.args.fault c.new.result.place c.in_default.ensures
    c.new.ensures.place
