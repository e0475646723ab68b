-- The line that a record names is the only one that it names.
use Rattle.std.proofs.Common.{sym, subst}
use Rattle.csv.specs.Records.{fields_of}
use Rattle.twp_notes.specs.FieldNotes.{NamesLine}
use Rattle.twp_diagnose.proofs.records.names.Goals as goal

pub returns-in-Some : goal.returns-in-Some
returns-in-Some c = (
  λ is. subst (NamesLine (fields_of c.args.row.now)) (c.is_same.ensures.0 is) c.in-Some.ensures.0,
  λ names. c.is_same.ensures.1 (sym (c.in-Some.ensures.1 c.args.line names)),
)

pub returns-in-None : goal.returns-in-None
returns-in-None c = (λ is. absurd (cc is), λ names. absurd (c.in-None.ensures c.args.line names))
