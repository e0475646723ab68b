use Rattle.twp_read.proofs.FirstTextFaults.{bad_first, syntax_first}
use Rattle.twp_read.proofs.description.fault_of.Goals as goal

pub returns-in-Some-clause-refused : goal.returns-in-Some-clause-refused
returns-in-Some-clause-refused c =
    bad_first c.args.text.now _ c.requires.limit c.in-Some.ensures

pub returns-in-None-clause-refused : goal.returns-in-None-clause-refused
returns-in-None-clause-refused c =
    syntax_first c.args.text.now c.args.at c.args.expected c.requires.limit c.in-None.ensures
    c.requires.wrong.wrong
