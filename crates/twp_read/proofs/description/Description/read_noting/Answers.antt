use Rattle.twp_read.proofs.OneAnswer as answer
use Rattle.twp_read.proofs.description.Description.read_noting.Goals as goal

pub returns-clause-taken : goal.returns-clause-taken
returns-clause-taken c =
    answer.taken_noted c.args.text.now c.read_within.result c.read_within.ensures.read
    c.read_within.ensures.refused
