use Rattle.std.proofs.Common.{rules}
use Rattle.twp_suggest.proofs.meaning.ClearFacts.{never_accepted}
use Rattle.twp_suggest.proofs.meaning.on_plat.read.Goals as goal

pub returns-in-Some-clause-refused : goal.returns-in-Some-clause-refused
returns-in-Some-clause-refused c = λ _.
    never_accepted c.args.text.now c.in-Err.fault c.in-Some.field-0 c.in-Err.ensures.taken (search rules)
