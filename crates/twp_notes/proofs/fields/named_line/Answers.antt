-- The only line that the record names, or none if its name has a fault.
use Rattle.csv.specs.Records.{fields_of}
use Rattle.twp_notes.proofs.NameFacts.{names_one, names_none}
use Rattle.twp_notes.proofs.fields.named_line.Goals as goal

pub returns-in-Ok : goal.returns-in-Ok
returns-in-Ok c = (
  c.in-Ok.ensures.line,
  λ line names. names_one (fields_of c.args.row.now) line c.in-Ok.line names c.in-Ok.ensures.line,
)

pub returns-in-Err : goal.returns-in-Err
returns-in-Err c =
    names_none (fields_of c.args.row.now) 0 c.in-Err.field-0 c.in-Err.ensures.fault
