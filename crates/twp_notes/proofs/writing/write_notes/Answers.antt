-- The records were appended one after another.
use Rattle.std.proofs.Common.{◌≡◌}
use Rattle.twp_notes.specs.FieldNotes.{returned_of}
use Rattle.twp_notes.specs.NotesTexts.{text_before, AreLineFields}
use Rattle.twp_notes.proofs.TextFacts.{no_line, line_more, begins_more, err_anyway}
use Rattle.twp_notes.proofs.writing.write_notes.Goals as goal

pub loop-index-init : goal.loop-index-init
loop-index-init c = record {
  written =
      no_line c.args.notes.now _ _ _ c.in_ok-extend_from_slice.ensures.items
      (rw c.township.ensures at c.in_ok-write_township.ensures.ok);
}

pub returns-in_err-write_line-clause-err : goal.returns-in_err-write_line-clause-err
returns-in_err-write_line-clause-err c =
    let written = c.loop-index.invariant.written in
    err_anyway c.from_residual-in_err-write_line.result
    (begins_more c.args.out.now.items (text_before c.args.notes.now written.rows) c.loop-index.out.items _
    written.text_is c.in_err-write_line.ensures.err)

pub loop-index-preserved : goal.loop-index-preserved
loop-index-preserved c =
    let line = c.in_ok-write_line.ensures.ok in
    let is : c.in-Some.line ≡ c.loop-index.index = c.in-Some.ensures.1 in
    let are : AreLineFields c.loop-index.index (returned_of c.args.notes.now c.loop-index.index) line.0 =
    rw (c.line.ensures, is) at line.1 in
    record {
      written =
          line_more c.args.notes.now c.loop-index.index c.args.out.now.items c.loop-index.out.items _ line.0
          c.loop-index.invariant.written are line.2;
    }
