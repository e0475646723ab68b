use Rattle.std.proofs.Common.{rules}
use Rattle.twp_suggest.proofs.meaning.ClearFacts.{if_refused}
use Rattle.twp_suggest.proofs.meaning.clear.is_clear.Goals as goal

pub returns-in-Some : goal.returns-in-Some
returns-in-Some c =
    if_refused c.args.text.now c.in-Err.fault c.in-Some.field-0 c.in-Err.ensures.taken (search rules)
