use Rattle.twp_notes.proofs.TableFacts.{same_everywhere}
use Rattle.twp_notes.proofs.parsing.LineTable.new.Goals as goal

pub returns : goal.returns
returns c line = same_everywhere _ 84 line
