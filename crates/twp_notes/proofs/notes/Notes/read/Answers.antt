-- A failure to read is returned whatever the bytes are.
use Rattle.std.proofs.Common.{[]}
use Rattle.std.specs.Prelude.{unwrap_or}
use Rattle.std.proofs.lemmas.Result.{err_from_is_err_and}
use Rattle.twp_notes.proofs.DeviceFacts.{tells_some}
use Rattle.twp_notes.proofs.FirstFaults.{answers_reading}
use Rattle.twp_notes.proofs.notes.Notes.read.Goals as goal

pub returns-in_err-bytes-clause-answer : goal.returns-in_err-bytes-clause-answer
returns-in_err-bytes-clause-answer g c =
    let known = g.R.Source.remaining c.args.source.now in
    let gone = err_from_is_err_and c.from_residual.result c.from_residual.ensures.1 in
    (unwrap_or known [], tells_some known, rw (gone.1, gone.2) (answers_reading _ c.in_err-bytes.field-0.0))
